-- A pair and the pair of its heads: what is done for the one serves the other.
use Rattle.std.proofs.Common.{◌≡◌, ℕ, ◌<◌, List, [], ◌∷◌, ◌++◌, refl, sym, ap, ◌∙◌, subst}
use Rattle.nts_model.specs.declared.labels.Variance.{Variance}
use Rattle.nts_model.specs.Tables.Contents.{Content}
use Rattle.nts_model.specs.Terms.Trees.{Tree, size, kind_of, any_label, is_alias}
use Rattle.nts_model.specs.Tables.Resolving.{Knows, rooted, deeply_resolved}
use Rattle.nts_model.specs.Tables.Worlds.{inst}
use Rattle.nts_model.specs.Tables.Holding.{AreOne, HoldsConstraint}
use Rattle.nts_model.specs.Derivations.Related.{Related}
use Rattle.nts_model.specs.Lists.{Among}
use Rattle.nts_model.specs.Derivations.Proving.{recorded_as}
use Rattle.nts_variance_model.specs.Variances.Judging.{Judging, Settles}
use Rattle.nts_variance_model.specs.Variances.Relations.{Relating as Pair}
use Rattle.nts_variance_model.specs.Variances.Leaving.{judging_of}
use Rattle.nts_model.proofs.Tables.Held.{AreOne-continues}
use Rattle.nts_model.proofs.Tables.Kept.{kind_of-resolved}
use Rattle.nts_store.specs.declared.nodes.NodeId.{NodeId}
use Rattle.nts_store.specs.Growth.{tree_at}
use Rattle.nts_unify.specs.Entries.{Entries}
use Rattle.nts_unify.specs.Reading.{content_of, IsLawful}
use Rattle.nts_relating.specs.declared.relate.Head.{Head}
use Rattle.nts_relating.specs.declared.relate.Head.TheVariants.{Open, Closed}
use Rattle.nts_relating.specs.Relating.{IsHeadOfTree}
use Rattle.nts_variance.specs.declared.along.Relating.{Relating}
use Rattle.nts_variance.specs.Steps.{stacked}
use Rattle.nts_variance.specs.Terms.{pair_at, pairs_at}
use Rattle.nts_variance.specs.Taking.{IsPairSide, IsPair, Sense, HoldsIn, size_in, Counts, IsUnderway, IsCall}
use Rattle.nts_variance.specs.Equating.{StandsFor, node_in, IsAt, ArePairHeads}
use Rattle.nts_variance.proofs.Calls.{pairs_front}
use Rattle.nts_variance.proofs.Pairing.{pairs_push}
use Rattle.nts_variance.proofs.Runs.{stacked-push}
use Rattle.nts_variance.proofs.Takes.{pair_of}

stands_one : (c : Content) (a b : Tree) → StandsFor c a b → AreOne c a b
stands_one c a b s = ap (rooted c) s.same

-- a side and its head
pub record IsHeadOf (ts : List Tree) (e : Entries) (t v : NodeId) (h : Head) : Type 0 where
  pub side : IsPairSide ts (content_of ts e) v
  pub stands : StandsFor (content_of ts e) (tree_at ts t) (tree_at ts v)
  pub here : IsAt ts e v h

head_of_side : (ts : List Tree) (e : Entries) (t : NodeId) (h : Head) → IsLawful ts e → IsPairSide ts (content_of ts e) t → IsHeadOfTree ts e (tree_at ts t) h → IsHeadOf ts e t (node_in h t) h
head_of_side ts e t (Open n) lawful side o = record { side = side; stands = record { same = refl; labels = λ P h k. k; worlds = λ w s. refl }; here = o }
head_of_side ts e t (Closed v) lawful side o =
    let c = content_of ts e in
    let sound = lawful.sound in
    let kinds : kind_of (tree_at ts v) ≡ kind_of (tree_at ts t) = sym (kind_of-resolved c (tree_at ts v) sound o.1.knows) ∙ ap kind_of (sym o.1.same) ∙ kind_of-resolved c (tree_at ts t) sound side.knows in
    record {
      side = record { within = o.0; knows = o.1.knows; sort = side.sort; kind = kinds ∙ side.kind };
      stands = record { same = o.1.same; labels = o.1.labels; worlds = o.1.worlds };
      here = o.1.no_variable;
    }

pub heads_of : (ts : List Tree) (e : Entries) (p : Relating) (l r : Head) (a b : NodeId) → IsLawful ts e → IsPair ts (content_of ts e) p → IsHeadOfTree ts e (tree_at ts p.left) l → IsHeadOfTree ts e (tree_at ts p.right) r → a ≡ node_in l p.left → b ≡ node_in r p.right
    → ArePairHeads ts e p (record { pair = record { variance = p.variance; left = a; right = b }; left = l; right = r })
heads_of ts e p l r a b lawful known hl hr ea eb =
    let x = head_of_side ts e p.left l lawful known.left hl in
    let y = head_of_side ts e p.right r lawful known.right hr in
    rw (ea, eb) (record {
      heads = record { known = record { left = x.side; right = y.side }; at_left = x.here; at_right = y.here };
      kept = refl;
      on_left = x.stands;
      on_right = y.stands;
    })

module _ (declared : ℕ → List Variance) where
  abbrev RelatedTrees : Sense → Variance → Tree → Tree → Type 0
  RelatedTrees w = Related declared (λ t. Unit {0}) (λ x. HoldsConstraint w.table (recorded_as x)) (Among w.answers)

  related_from : (w : Sense) (v : Variance) (a b x y : Tree) → a ≡ x → b ≡ y → RelatedTrees w v x y → RelatedTrees w v a b
  related_from w v a b x y p q h = subst (λ z. RelatedTrees w v a z) (sym q) (subst (λ z. RelatedTrees w v z y) (sym p) h)

  settles_on : (J : Judging) (v : Variance) (a b x y : Tree) → a ≡ x → b ≡ y → Settles J v a b → Settles J v x y
  settles_on J v a b x y p q h = subst (λ z. Settles J v x z) q (subst (λ z. Settles J v z b) p h)

  -- a pair that is left, and the pair of trees for which its sides stand
  pub underway_stands : (c d : Content) (p : Pair) (v : Variance) (a b x y : Tree) (left es gs met : List Pair) → Knows d a → Knows d b → Knows d x → Knows d y → StandsFor d a x → StandsFor d b y
      → IsUnderway declared c d p (pair_of v a b ∷ left) es gs met → IsUnderway declared c d p (pair_of v x y ∷ left) es gs met
  underway_stands c d p v a b x y left es gs met ka kb kx ky sa sb u =
      record {
        later = u.later;
        continues = u.continues;
        leaves = record {
          more = u.leaves.more;
          back = u.leaves.back;
          complete = λ j w s judges settled h.
              (let r = u.leaves.complete j w s judges settled h in
              let e = r.0 in
              (e, (settles_on (judging_of declared j) v (inst e.world a) (inst e.world b) (inst e.world x) (inst e.world y) (sa.worlds e.world e.solves) (sb.worlds e.world e.solves) r.1.0, r.1.1), r.2));
        };
        sound = λ w n h. u.sound w n (back w n h.0, h.1);
        meets = λ w n q i h. u.meets w n q i ((λ l. back w n (h.0 (subst (λ t. size t < size_in declared w q) (left_one w n) l))), h.1);
        plain = λ h.
            (let r = u.plain h in
            let left = r.1 in
            let first = left.0 in
            (r.0, ((ap (any_label is_alias) (sym sa.same) ∙ first.0, ap (any_label is_alias) (sym sb.same) ∙ first.1), left.1)));
        passes = λ P o h k. (let q = u.passes P o h k in let first = q.1 in (q.0, (sa.labels P q.0 first.0, sb.labels P q.0 first.1, first.2), q.2, q.3));
      }
    where
      left_one : (w : Sense) → Counts declared d es gs w → deeply_resolved w.table a ≡ deeply_resolved w.table x
      left_one w n = AreOne-continues d w.table a x n.continues ka kx (stands_one d a x sa)

      back : (w : Sense) → Counts declared d es gs w → HoldsIn declared w (pair_of v x y) → HoldsIn declared w (pair_of v a b)
      back w n h = related_from w v (deeply_resolved w.table a) (deeply_resolved w.table b) (deeply_resolved w.table x) (deeply_resolved w.table y) (left_one w n) (AreOne-continues d w.table b y n.continues kb ky (stands_one d b y sb)) h

  -- .. by terms of the store
  pub record Standing (ts : List Tree) (e : Entries) (p q : Relating) : Type 0 where
    pub own : IsPair ts (content_of ts e) p
    pub known : IsPair ts (content_of ts e) q
    pub kept : q.variance ≡ p.variance
    pub on_left : StandsFor (content_of ts e) (tree_at ts p.left) (tree_at ts q.left)
    pub on_right : StandsFor (content_of ts e) (tree_at ts p.right) (tree_at ts q.right)

  pub call_stands : (ts us : List Tree) (e f : Entries) (p q r : Relating) (ps ms es gs : List Relating) → Standing us f q r → IsCall declared ts us e f p (ps ++ q ∷ []) ms es gs → IsCall declared ts us e f p (ps ++ r ∷ []) ms es gs
  call_stands ts us e f p q r ps ms es gs s u =
      let c = content_of ts e in
      let d = content_of us f in
      let own = s.own in
      let known = s.known in
      let front = pairs_front us d ps q u.pairs in
      let before : IsUnderway declared c d (pair_at ts p) (pair_at us q ∷ stacked (pair_at us) ps) (pairs_at us es) (pairs_at us gs) (pairs_at us ms) = rw (stacked-push (pair_at us) ps q) at u.going in
      let after = underway_stands c d (pair_at ts p) q.variance (tree_at us q.left) (tree_at us q.right) (tree_at us r.left) (tree_at us r.right) (stacked (pair_at us) ps) (pairs_at us es) (pairs_at us gs) (pairs_at us ms) own.left.knows own.right.knows known.left.knows known.right.knows s.on_left s.on_right before in
      let same : pair_of q.variance (tree_at us r.left) (tree_at us r.right) ≡ pair_at us r = ap (λ v. pair_of v (tree_at us r.left) (tree_at us r.right)) (sym s.kept) in
      let there : IsUnderway declared c d (pair_at ts p) (pair_at us r ∷ stacked (pair_at us) ps) (pairs_at us es) (pairs_at us gs) (pairs_at us ms) = subst (λ x. IsUnderway declared c d (pair_at ts p) (x ∷ stacked (pair_at us) ps) (pairs_at us es) (pairs_at us gs) (pairs_at us ms)) same after in
      record {
        start = u.start;
        lawful = u.lawful;
        pairs = pairs_push us d ps r front.0 known;
        met = u.met;
        equal = u.equal;
        waits = u.waits;
        goals = u.goals;
        are_goals = u.are_goals;
        going = rw (stacked-push (pair_at us) ps r) there;
      }
