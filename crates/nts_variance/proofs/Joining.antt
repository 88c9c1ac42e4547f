-- Two variables that were made one, for a pair that is to be made equal.
use Rattle.std.proofs.Common.{◌≡◌, ℕ, List, [], ◌∷◌, refl, sym, ap, ◌∙◌, subst}
use Rattle.nts_model.specs.declared.labels.Variance.{Variance}
use Rattle.nts_model.specs.Tables.Contents.{Content, kind_at}
use Rattle.nts_model.specs.Terms.Trees.{Tree, variable_tree}
use Rattle.nts_model.specs.Tables.Resolving.{IsSound, Knows, resolved, rooted, deeply_resolved}
use Rattle.nts_model.specs.Tables.Worlds.{World, inst, Solves}
use Rattle.nts_model.specs.Tables.Holding.{AreOne, Continues, HoldsConstraint}
use Rattle.nts_model.specs.Derivations.Related.{Related, one_tree}
use Rattle.nts_model.specs.Lists.{Among}
use Rattle.nts_model.specs.Derivations.Proving.{recorded_as}
use Rattle.nts_variance_model.specs.Variances.Judging.{IsSettled, Settles}
use Rattle.nts_variance_model.specs.Variances.Relations.{IsSettledWorld}
use Rattle.nts_variance_model.specs.Variances.Leaving.{Judge, judging_of, Leaves, Refuses}
use Rattle.nts_model.proofs.Tables.Held.{AreOne-continues}
use Rattle.nts_model.proofs.Tables.Slots.{Knows-kept, field_below}
use Rattle.nts_variance_model.proofs.Variances.Tied.{settled_tied}
use Rattle.nts_unify.specs.Entries.{Entries}
use Rattle.nts_unify.specs.Reading.{content_of, IsLawful}
use Rattle.nts_unify.proofs.Changes.{some_inj}
use Rattle.nts_relating.specs.Relating.{IsOpen, AreMadeOne, KeepsApart}
use Rattle.nts_variance.specs.Taking.{Takes}
use Rattle.nts_variance.proofs.Bound.{bindable_kind}
use Rattle.nts_variance.specs.Equating.{AreToBeOne}
use Rattle.nts_variance.proofs.Exact.{one_settled}
use Rattle.nts_variance.proofs.Growing.{grown_later}
use Rattle.nts_variance.proofs.Founding.{founds_tied}
use Rattle.nts_variance.proofs.Leaves.{kept_kinds}
use Rattle.nts_variance.proofs.Sides.{open_one}
use Rattle.nts_variance.proofs.Takes.{pair_of, takes_class}

module _ (declared : ℕ → List Variance) where
  -- in a settled world two variables that settle by the pair's variance are one
  pub record MeetAsOne (c : Content) (v : Variance) (a b : Tree) : Type 0 where
    pub one : (j : Judge declared) (w : World) → Solves c w → IsSettledWorld (judging_of declared j) c w → Settles (judging_of declared j) v (inst w a) (inst w b) → inst w a ≡ inst w b

  -- the instance of a variable is settled
  pub open_settled : (ts : List Tree) (e : Entries) (t : Tree) (x : ℕ) (j : Judge declared) (w : World) → IsOpen ts e t x → Solves (content_of ts e) w → IsSettledWorld (judging_of declared j) (content_of ts e) w → IsSettled (judging_of declared j) (inst w t)
  open_settled ts e t x j w o s settled =
      let has = bindable_kind ts e x o.bindable in
      subst (IsSettled (judging_of declared j)) (sym (o.worlds w s)) (settled.each x (field_below (λ z. z.kind) (content_of ts e) x o.bindable.of_kind has))

  pub meet_as_one : (ts : List Tree) (e : Entries) (v : Variance) (a b : Tree) (x y : ℕ) → IsOpen ts e a x → IsOpen ts e b y → AreToBeOne (content_of ts e) v a b → MeetAsOne (content_of ts e) v a b
  meet_as_one ts e v a b x y o r is =
      record {
        one = λ j w s settled h. one_settled (judging_of declared j) j.lawful v (inst w a) (inst w b) (open_settled ts e a x j w o s settled) (open_settled ts e b y j w r s settled) h (is.worlds w s);
      }

  joined_leaves : (ts us : List Tree) (e f : Entries) (v : Variance) (a b : Tree) (x y : ℕ) → IsSound (content_of us f) → IsOpen ts e a x → IsOpen ts e b y → MeetAsOne (content_of ts e) v a b → AreMadeOne (content_of ts e) (content_of us f) x y → Leaves declared (content_of ts e) (content_of us f) (pair_of v a b ∷ []) [] []
  joined_leaves ts us e f v a b x y sound o r meet m =
      let c = content_of ts e in
      let d = content_of us f in
      record {
        more = m.later.more;
        back = λ w s. (m.sound w s).0;
        complete = λ j w s judges settled h.
            (let J = judging_of declared j in
            let one : w.tree x ≡ w.tree y = sym (o.worlds w s) ∙ meet.one j w s settled h.0 ∙ r.worlds w s in
            let q = m.complete w s one in
            let kept : IsSettledWorld J c q.world = record { each = λ n l. subst (IsSettled J) (sym (q.agrees.trees n l)) (settled.each n l) } in (
              record { world = q.world; agrees = q.agrees; solves = q.solves; settled = settled_tied J j.lawful c d q.world sound q.solves m.ties kept; names = λ k n z. q.names k n tt },
              tt,
              tt,
            ));
      }

  pub takes_joined : (ts us : List Tree) (e f : Entries) (v : Variance) (a b : Tree) (x y : ℕ) → IsLawful ts e → IsSound (content_of us f) → Knows (content_of ts e) a → Knows (content_of ts e) b → IsOpen ts e a x → IsOpen ts e b y → MeetAsOne (content_of ts e) v a b → AreMadeOne (content_of ts e) (content_of us f) x y
      → Takes declared (content_of ts e) (content_of us f) (pair_of v a b ∷ []) [] []
  takes_joined ts us e f v a b x y lawful sound ka kb o r meet m =
      let c = content_of ts e in
      let d = content_of us f in
      let j = o.bindable.of_kind in
      let k = r.bindable.of_kind in
      let first = bindable_kind ts e x o.bindable in
      let second = bindable_kind ts e y r.bindable in
      let knows_first : Knows c (variable_tree j x) = ((first, tt, refl), tt, tt) in
      let knows_second : Knows c (variable_tree k y) = ((second, tt, refl), tt, tt) in
      let left : AreOne d a (variable_tree j x) = AreOne-continues c d a (variable_tree j x) m.continues ka knows_first (open_one ts e a x o) in
      let right : AreOne d b (variable_tree k y) = AreOne-continues c d b (variable_tree k y) m.continues kb knows_second (open_one ts e b y r) in
      let one : AreOne d a b = left ∙ m.one j k first second ∙ sym right in
      record {
        later = grown_later m.later;
        continues = m.continues;
        leaves = joined_leaves ts us e f v a b x y sound o r meet m;
        relates = record {
          related = λ g s on ks answered h.
              (let there : deeply_resolved g a ≡ deeply_resolved g b = AreOne-later c d g a b m.continues on ka kb one in
              (subst (Related declared (λ t. Unit {0}) (λ z. HoldsConstraint g (recorded_as z)) (Among ks) v (deeply_resolved g a)) there (one_tree tt), tt));
        };
        plain = λ h. (let l = m.later in (record { keeps = m.plain; founds = founds_tied c d l.kinds m.ties }, tt));
        passes = λ P p h i. ((let y = m.brings in y.labels P (p.variables) h), tt, tt);
      }
    where
      AreOne-later : (c d g : Content) (a b : Tree) → Continues c d → Continues d g → Knows c a → Knows c b → AreOne d a b → deeply_resolved g a ≡ deeply_resolved g b
      AreOne-later c d g a b first on ka kb one = AreOne-continues d g a b on (Knows-kept c d a (kept_kinds c d first) ka) (Knows-kept c d b (kept_kinds c d first) kb) one

  -- one variable on both sides
  pub takes_twice : (ts : List Tree) (e : Entries) (v : Variance) (a b : Tree) (x y : ℕ) → IsLawful ts e → Knows (content_of ts e) a → Knows (content_of ts e) b → IsOpen ts e a x → IsOpen ts e b y → x ≡ y → Takes declared (content_of ts e) (content_of ts e) (pair_of v a b ∷ []) [] []
  takes_twice ts e v a b x y lawful ka kb o r same =
      let c = content_of ts e in
      let first = bindable_kind ts e x o.bindable in
      let second = bindable_kind ts e y r.bindable in
      let kinds : o.bindable.of_kind ≡ r.bindable.of_kind = some_inj o.bindable.of_kind r.bindable.of_kind (sym first ∙ ap (kind_at c) same ∙ second) in
      takes_class declared c v a b lawful.sound ka kb (ap (rooted c) (o.same ∙ (λ i. resolved c (variable_tree (kinds i) (same i))) ∙ sym r.same))

  pub refuses_joined : (ts : List Tree) (e : Entries) (v : Variance) (a b : Tree) (x y : ℕ) → IsOpen ts e a x → IsOpen ts e b y → MeetAsOne (content_of ts e) v a b → KeepsApart (content_of ts e) x y → Refuses declared (content_of ts e) (pair_of v a b ∷ [])
  refuses_joined ts e v a b x y o r meet apart =
      record { none = λ j w s judges settled h. apart.none w s (sym (o.worlds w s) ∙ meet.one j w s settled h.0 ∙ r.worlds w s) }
