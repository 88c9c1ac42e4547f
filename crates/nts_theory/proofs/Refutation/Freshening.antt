-- Fresh variables for a candidate that a world meets: they get the rule's values, and the world meets the filled candidate.
use Rattle.std.proofs.Common.{◌≡◌, inl, inr, ℕ, ◌+◌, ◌≤◌, List, [], ◌∷◌, map, length, Option, refl, sym, ap, subst, ◌∙◌, arith}
use Rattle.std.specs.Prelude.{◌⊎◌}
use Rattle.nts_model.specs.declared.labels.Sort.{Sort}
use Rattle.nts_model.specs.declared.labels.VariableKind.{VariableKind}
use Rattle.nts_model.specs.declared.labels.FreeRegion.TheVariants as region
use Rattle.nts_model.specs.declared.labels.Leaf.{Leaf}
use Rattle.nts_model.specs.declared.labels.Leaf.TheVariants as leaf
use Rattle.nts_model.specs.declared.labels.Label.{Label}
use Rattle.nts_model.specs.declared.labels.Label.TheVariants as label
use Rattle.nts_model.specs.Terms.Trees.{Tree, empty, more, node, IsFormed}
use Rattle.nts_model.specs.Tables.Contents.{Content}
use Rattle.nts_model.specs.Tables.Resolving.{Knows, KnowsLabel}
use Rattle.nts_model.specs.Tables.Levels.{term_level}
use Rattle.nts_model.specs.Tables.Worlds.{World, inst, IsValue, IsNameable, Solves, Agrees}
use Rattle.nts_model.specs.Terms.Substitutions.{leaf_tree, put, Occurs, Instance, instance_of, filled, filled_under, position_of, value_or}
use Rattle.nts_model.specs.Derivations.Related.{pair}
use Rattle.nts_model.specs.Derivations.Rules.{coherence, Equation, related, alike}
use Rattle.nts_model.specs.Derivations.Handlers.{Handler, kind_of_sort, AreValuesOf, IsAsked, CandidatesKeep, IsCandidateFor, IsOver, IsFixed, IsEquationOver}
use Rattle.nts_model.specs.Canonical.Inputs.{type_variable}
use Rattle.nts_model.specs.Answers.Responses.{read_in, bound_of}
use Rattle.nts_model.specs.Answers.Applying.{IsNew, IsProperContent}
use Rattle.nts_model.specs.Terms.Placeholders.{leaf_level}
use Rattle.nts_model.specs.Refutation.Containing.{IsAliasFree, IsPlainWorld, Truth, IsTrueBy, IsSolution}
use Rattle.nts_model.specs.Lists.{Among}
use Rattle.nts_theory.specs.RelatingCandidates.{plain_part, aliased_equations}
use Rattle.nts_theory.specs.Refutation.Refutation.{IsGranted, AreMadeOne}
use Rattle.nts_theory.proofs.Refutation.PlainParts.{plain_among, aliased_among}
use Rattle.nts_theory.proofs.Refutation.PlainTerms.{alias_level, plain_by_names, free_values}
use Rattle.nts_model.specs.Refutation.Coherence.{IsInstanceIn}
use Rattle.nts_model.proofs.Tables.Instances.{inst-agrees, Agrees-refl, Agrees-trans}
use Rattle.nts_model.proofs.Tables.Slots.{KeepsKinds-with_slot, KeepsKinds, KeepsKinds-refl, KeepsKinds-trans}
use Rattle.nts_model.proofs.Canonical.Positioned.{inst-filled}
use Rattle.nts_theory.proofs.Responses.Applying.{new_forth, new_back, new_value, new_named}
use Rattle.nts_theory.proofs.Refutation.Carrying.{names_terms}
use Rattle.nts_theory.proofs.Refutation.Answered.{solution_later}
use Rattle.nts_model.specs.Refutation.Choosing.{left_of, right_of, AreNamedValues, Freshens}
use Rattle.nts_theory.proofs.Refutation.Trying.{MeetsCandidate}
use Rattle.nts_theory.proofs.Refutation.OfferMeeting.{replace_inst, MeetsOffered}

-- the world with those values
pub record IsFreshenedWorld (u : ℕ) (c d : Content) (w : World) (ts vs : List Tree) : Type 0 where
  pub world : World
  pub agrees : Agrees (length c.slots) w world
  pub solves : Solves d world
  pub longer : length c.slots ≤ length d.slots
  pub keeps : KeepsKinds c d
  pub images : map (inst world) ts ≡ vs
  pub names : (f : Label → Option ℕ) → IsNameable f c w → AreNamedValues f u vs → IsNameable f d world

pub record IsFreshened (truth : Truth) (base : ℕ) (c d : Content) (w : World) (ts vs : List Tree) : Type 0 where
  pub world : World
  pub agrees : Agrees (length c.slots) w world
  pub solution : IsSolution truth base d world
  pub plain : IsPlainWorld c w → IsPlainWorld d world
  pub longer : length c.slots ≤ length d.slots
  pub keeps : KeepsKinds c d
  pub images : map (inst world) ts ≡ vs

pub new_kinds : (c e : Content) (k : VariableKind) (u : ℕ) (t : Tree) → IsNew c e k u t → KeepsKinds c e
new_kinds c e k u t x = subst (KeepsKinds c) (sym x.entries) (KeepsKinds-with_slot c x.slot)

plus_none : (u : ℕ) → u + 0 ≡ u
plus_none u = omega arith

pub freshened_world : (u : ℕ) (ss : List Sort) (ts vs : List Tree) (c d : Content) (w : World) → IsProperContent c → Freshens u ss ts c d → AreValuesOf ss vs → AreNamedValues term_level u vs → Solves c w → IsFreshenedWorld u c d w ts vs
freshened_world u [] [] [] c d w proper h v n s = record { world = w; agrees = Agrees-refl (length c.slots) w; solves = rw h s; longer = rw h (omega arith); keeps = subst (KeepsKinds c) (sym h) (KeepsKinds-refl c); images = refl; names = λ f q m. rw h q }
freshened_world u [] [] (x ∷ vs) c d w proper h v n s = absurd v
freshened_world u [] (t ∷ ts) vs c d w proper h v n s = absurd h
freshened_world u (o ∷ ss) [] vs c d w proper h v n s = absurd h
freshened_world u (o ∷ ss) (t ∷ ts) [] c d w proper h v n s = absurd v
freshened_world u (o ∷ ss) (t ∷ ts) (x ∷ vs) c d w proper (e, new, up, rest) v n s =
    let k = type_variable 0 0 in
    let value : IsValue (kind_of_sort o) x = (let a = v.0 in record { fits = a.fits; closed = a.closed; formed = a.formed }) in
    let at : bound_of u k ≡ u = plus_none u in
    let one = new_forth c c e u k (kind_of_sort o) t w x (λ f q. q) (subst (λ z. IsNew c e (kind_of_sort o) z t) (sym at) new) proper s value (rw at n.0) in
    let more = freshened_world u ss ts vs e d one.world one.proper rest v.1 n.1 one.solves in
    record {
      world = more.world;
      agrees = Agrees-trans (length c.slots) (length e.slots) w one.world more.world one.longer one.agrees more.agrees;
      solves = more.solves;
      longer = (let a = one.longer in let b = more.longer in omega (arith, a, b));
      keeps = KeepsKinds-trans (new_kinds c e (kind_of_sort o) u t new) more.keeps;
      images = cc (inst-agrees e one.world more.world t more.agrees one.knows ∙ one.image, more.images);
      names = λ f q m. more.names f (one.names f q (rw at m.0)) m.1;
    }

pub named_terms : (u : ℕ) (vs : List Tree) → AreNamedValues leaf_level u vs → AreNamedValues term_level u vs
named_terms u [] n = tt
named_terms u (v ∷ vs) n = (names_terms u v n.0, named_terms u vs n.1)

pub freshened : (truth : Truth) (base u : ℕ) (ss : List Sort) (ts vs : List Tree) (c d : Content) (w : World) → IsProperContent c → Freshens u ss ts c d → AreValuesOf ss vs → AreNamedValues leaf_level u vs → ((v : Tree) → Among vs v → IsAliasFree v) → IsSolution truth base c w → IsFreshened truth base c d w ts vs
freshened truth base u ss ts vs c d w proper h v n free s =
    let f = freshened_world u ss ts vs c d w proper h v (named_terms u vs n) s.solves in
    record {
      world = f.world;
      agrees = f.agrees;
      solution = solution_later truth base c d w f.world s (let k = f.keeps in k.grows) f.agrees f.solves (f.names leaf_level s.named n);
      plain = plain_by_names c d w f.world (λ m k. f.names (alias_level m) k (free_values m u vs free));
      longer = f.longer;
      keeps = f.keeps;
      images = f.images;
    }

-- seen from the table afterwards
pub record WasFreshened (u : ℕ) (ss : List Sort) (c : Content) (w : World) (vs : List Tree) : Type 0 where
  pub solves : Solves c w
  pub fit : AreValuesOf ss vs
  pub named : AreNamedValues term_level u vs

pub freshened_back : (u : ℕ) (ss : List Sort) (ts : List Tree) (c d : Content) (w : World) → Freshens u ss ts c d → Solves d w → WasFreshened u ss c w (map (inst w) ts)
freshened_back u [] [] c d w h s = record { solves = rw (← h) s; fit = tt; named = tt }
freshened_back u [] (t ∷ ts) c d w h s = absurd h
freshened_back u (o ∷ ss) [] c d w h s = absurd h
freshened_back u (o ∷ ss) (t ∷ ts) c d w (e, new, up, rest) s =
    let more = freshened_back u ss ts e d w rest s in
    let value = new_value c e (kind_of_sort o) u t w new more.solves in
    record {
      solves = new_back c e (kind_of_sort o) u t w new more.solves;
      fit = (record { fits = value.fits; formed = value.formed; closed = value.closed }, more.fit);
      named = (new_named term_level c e (kind_of_sort o) u t w new (let x = more.solves in x.nameable), more.named);
    }

-- filled alike, where the leaves that stand in the term are alike
put_agree : (f g : Leaf → Tree) (l : Label) (c d e : Tree) → IsFormed (node l c) → ((x : Leaf) → Occurs x (node l c) → f x ≡ g x) → d ≡ e → put f l d ≡ put g l e
put_agree f g (label.Leaf x) c d e k h q = h x (inl refl)
put_agree f g (label.Bound a b n) c d e k h q = ap (node (label.Bound a b n)) q
put_agree f g (label.Ty x) c d e k h q = ap (node (label.Ty x)) q
put_agree f g (label.Const x) c d e k h q = ap (node (label.Const x)) q
put_agree f g (label.Clause x) c d e k h q = ap (node (label.Clause x)) q
put_agree f g (label.Predicate x) c d e k h q = ap (node (label.Predicate x)) q
put_agree f g (label.List x) c d e k h q = ap (node (label.List x)) q

pub filled_agree : (f g : Leaf → Tree) (vs : List Tree) (t : Tree) → IsFormed t → ((x : Leaf) → Occurs x t → f x ≡ g x) → filled_under f vs t ≡ filled_under g vs t
filled_agree f g vs empty k h = refl
filled_agree f g vs (more a b) k h = cc (filled_agree f g vs a k.0 (λ x i. h x (inl i)), filled_agree f g vs b k.1 (λ x i. h x (inr i)))
filled_agree f g vs (node l c) k h = ap (value_or (position_of l) vs) (put_agree f g l c (filled_under f vs c) (filled_under g vs c) k h (filled_agree f g vs c k.1 (λ x i. h x (inr i))))

-- a leaf of a term of the table
pub knows_leaf : (c : Content) (l : Leaf) (t : Tree) → Occurs l t → Knows c t → Knows c (leaf_tree l)
knows_leaf c l empty i k = absurd i
knows_leaf c l (more a b) (inl i) k = knows_leaf c l a i k.0
knows_leaf c l (more a b) (inr i) k = knows_leaf c l b i k.1
knows_leaf c l (node m x) (inl e) k = (subst (KnowsLabel c) (sym e) k.0, tt, tt)
knows_leaf c l (node m x) (inr i) k = knows_leaf c l x i k.1

module _ (h : Handler) (truth : Truth) (Proves : Tree → Tree → Type 0) (base : ℕ) (e g : Tree) (asked : IsAsked e g) (keep : CandidatesKeep h) (ι : Instance) (m : MeetsOffered h truth Proves e g ι)
    (c d : Content) (w : World) (same : IsInstanceIn w (pair e g) ι) (known : Knows c (pair e g)) (xs : List Tree) (new : IsFreshened truth base c d w xs m.chosen) where
  leaf_same : (l : Leaf) → Occurs l (pair e g) ⊎ IsFixed l → inst (new.world) (leaf_tree l) ≡ ι.value l
  leaf_same l (inl i) = inst-agrees c w (new.world) (leaf_tree l) new.agrees (knows_leaf c l (pair e g) i known) ∙ sym (same l i)
  leaf_same (leaf.Region region.Static) (inr i) = (let s = new.solution in let f = s.fixed in ap (λ z. leaf_tree (leaf.Region z)) f.static) ∙ sym (ι.stays region.Static tt)
  leaf_same (leaf.Region region.Erased) (inr i) = (let s = new.solution in let f = s.fixed in ap (λ z. leaf_tree (leaf.Region z)) f.erased) ∙ sym (ι.stays region.Erased tt)
  leaf_same (leaf.Region region.Error) (inr i) = (let s = new.solution in let f = s.fixed in ap (λ z. leaf_tree (leaf.Region z)) f.error) ∙ sym (ι.stays region.Error tt)
  leaf_same (leaf.Region (region.Placeholder u n)) (inr i) = absurd i
  leaf_same (leaf.Region (region.EarlyParam n)) (inr i) = absurd i
  leaf_same (leaf.Region (region.LateParam n)) (inr i) = absurd i
  leaf_same (leaf.Variable k n) (inr i) = absurd i
  leaf_same (leaf.TyConstant a) (inr i) = absurd i
  leaf_same (leaf.ConstConstant a) (inr i) = absurd i

  filled_image : (t : Tree) → IsFormed t → ((l : Leaf) → Occurs l t → Occurs l (pair e g) ⊎ IsFixed l) → inst (new.world) (filled xs t) ≡ filled_under ι.value (m.chosen) t
  filled_image t f o =
      inst-filled (new.world) xs t f
      ∙ ap (λ z. read_in (new.world) z t) new.images
      ∙ filled_agree (λ l. inst (new.world) (leaf_tree l)) ι.value (m.chosen) t f (λ l i. leaf_same l (o l i))

  image_over : (t : Tree) → IsOver (m.candidate.fresh) e g t → inst (new.world) (filled xs t) ≡ filled_under ι.value (m.chosen) t
  image_over t o = filled_image t o.formed o.leaves

  candidate_for : IsCandidateFor e g (m.candidate)
  candidate_for = keep.each coherence e g (m.candidate) asked (m.offered)

  left_over : (q : Equation) → IsEquationOver (m.candidate.fresh) e g q → IsOver (m.candidate.fresh) e g (left_of q)
  left_over (related a b) o = o.0
  left_over (alike a b) o = o.0

  right_over : (q : Equation) → IsEquationOver (m.candidate.fresh) e g q → IsOver (m.candidate.fresh) e g (right_of q)
  right_over (related a b) o = o.1
  right_over (alike a b) o = o.1

  one_equal : (q : Equation) → IsEquationOver (m.candidate.fresh) e g q → filled_under ι.value (m.chosen) (left_of q) ≡ filled_under ι.value (m.chosen) (right_of q)
      → inst (new.world) (filled xs (left_of q)) ≡ inst (new.world) (filled xs (right_of q))
  one_equal (related a b) o z = image_over a o.0 ∙ z ∙ sym (image_over b o.1)
  one_equal (alike a b) o z = image_over a o.0 ∙ z ∙ sym (image_over b o.1)

  -- the sides of its equations with aliases come to one tree
  pub aliased_filled : (q : Equation) → Among (aliased_equations m.candidate.equations) q → AreMadeOne (IsGranted Proves) (inst w e) (inst (new.world) (filled xs (left_of q))) (inst (new.world) (filled xs (right_of q)))
  aliased_filled q i =
      let k = candidate_for in
      let o = k.equations q (aliased_among m.candidate.equations q i).0 in
      let f = asked.formed in
      subst (λ z. AreMadeOne (IsGranted Proves) z (inst (new.world) (filled xs (left_of q))) (inst (new.world) (filled xs (right_of q)))) (replace_inst w ι.value e f.0 (λ l j. same l (inl j)))
      (subst (λ z. AreMadeOne (IsGranted Proves) (instance_of ι e) z (inst (new.world) (filled xs (right_of q)))) (sym (image_over (left_of q) (left_over q o)))
      (subst (λ z. AreMadeOne (IsGranted Proves) (instance_of ι e) (filled_under ι.value (m.chosen) (left_of q)) z) (sym (image_over (right_of q) (right_over q o))) (m.aliased q i)))

  -- the filled candidate is met
  pub meets_filled : MeetsCandidate truth (IsGranted Proves) (new.world) xs (plain_part m.candidate)
  meets_filled =
      let k = candidate_for in
      record {
        equal = record { each = λ q i. one_equal q (k.equations q (plain_among m.candidate.equations q i)) (m.equal q i) };
        met = λ x i.
            (let o = k.constraints x i in
            subst (λ z. IsTrueBy truth x.relation z (inst (new.world) (filled xs x.right))) (sym (image_over x.left o.0))
            (subst (λ z. IsTrueBy truth x.relation (filled_under ι.value (m.chosen) x.left) z) (sym (image_over x.right o.1)) (m.met x i)));
        goals = λ p i.
            (let n = k.goals p i in
            let f : IsFormed p.environment = rw (n.environment) (let a = asked.formed in a.0) in
            let over : (l : Leaf) → Occurs l p.environment → Occurs l (pair e g) ⊎ IsFixed l = λ l j. inl (inl (subst (Occurs l) n.environment j)) in
            subst (λ z. IsGranted Proves z (inst (new.world) (filled xs p.predicate))) (sym (filled_image p.environment f over))
            (subst (IsGranted Proves (filled_under ι.value (m.chosen) p.environment)) (sym (image_over p.predicate n.predicate)) (m.goals p i)));
      }
