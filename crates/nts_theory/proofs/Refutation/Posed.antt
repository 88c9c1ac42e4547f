-- Goals that are granted are granted as they are posed, with new variables in the places of aliases: these get the values with which the
-- goals are proved.
use Rattle.std.proofs.Common.{◌≡◌, inl, inr, List, [], ◌∷◌, map, Some, refl, sym, ap, subst, ◌∙◌}
use Rattle.nts_model.specs.declared.labels.Sort.{Sort}
use Rattle.nts_model.specs.declared.labels.Sort.TheVariants as sort
use Rattle.nts_model.specs.declared.labels.AliasHead.{AliasHead}
use Rattle.nts_model.specs.declared.labels.AliasHead.TheVariants as alias_of
use Rattle.nts_model.specs.declared.labels.AliasRelationDirection.TheVariants as direction
use Rattle.nts_model.specs.declared.labels.ClauseHead.TheVariants as clause
use Rattle.nts_model.specs.declared.labels.ListHead.TheVariants as list
use Rattle.nts_model.specs.declared.labels.Label.TheVariants as label
use Rattle.nts_model.specs.Terms.Trees.{Tree, empty, more, node, kind_of, of_sort}
use Rattle.nts_model.specs.Terms.Placeholders.{leaf_level}
use Rattle.nts_model.specs.Terms.Fitting.{Fits}
use Rattle.nts_model.specs.Tables.Contents.{Content}
use Rattle.nts_model.specs.Tables.Levels.{NamesAll}
use Rattle.nts_model.specs.Tables.Resolving.{Knows}
use Rattle.nts_model.specs.Tables.Worlds.{World, inst}
use Rattle.nts_model.specs.Lists.{Among}
use Rattle.nts_model.specs.Derivations.Related.{pair, alias, IsAlias}
use Rattle.nts_model.specs.Derivations.Sequents.{Premise}
use Rattle.nts_model.specs.Derivations.Rules.{GoalKind, statement_of, KeepsAliases, choice}
use Rattle.nts_model.specs.Derivations.Handlers.{Handler, kind_of_sort, AreValuesOf}
use Rattle.nts_model.specs.Refutation.Choosing.{AreNamedValues}
use Rattle.nts_model.specs.Refutation.Containing.{IsAliasFree, IsPlainWorld, Truth, IsSolution, IsProvedIn}
use Rattle.nts_model.proofs.Tables.Fitting.{IsFormed-inst}
use Rattle.nts_model.proofs.Tables.Instances.{inst-agrees}
use Rattle.nts_model.proofs.Tables.Slots.{Knows-kept}
use Rattle.nts_variance_model.specs.Variances.Relations.{Relating as Pair}
use Rattle.nts_theory.specs.Aliasing.{alias_relation}
use Rattle.nts_theory.specs.Posing.{AreOfSorts, TakesValues, posed_with, PutsNew, Poses, poses_none, as_it_is, with_variables}
use Rattle.nts_theory.specs.Refutation.Refutation.{IsTheory, IsGranted, IsGrantedAsIs}
use Rattle.nts_theory.proofs.Refutation.Answered.{AreTermsOf, still_proved, among_split}
use Rattle.nts_theory.proofs.Refutation.Begun.{BegunAt}
use Rattle.nts_theory.proofs.Refutation.Freshening.{freshened}
use Rattle.nts_theory.proofs.Refutation.Matched.{named_values, AllEqual, AllAre, matched, alias_there}
use Rattle.nts_theory.proofs.Refutation.PlainTerms.{free_none}
use Rattle.nts_theory.proofs.Refutation.Readying.{names_image}
use Rattle.nts_theory.proofs.Refutation.Trying.{Reaches, reaches_self, reaches_trans}

-- what takes values does in each world
loose_there : (w : World) (s : Tree) → TakesValues s → KeepsAliases (inst w s) → ⊥
loose_there w (node (label.Clause (clause.Trait i)) ts) t k = k
loose_there w (node (label.Clause (clause.HostEffect i)) ts) t k = k
loose_there w (node (label.Clause (clause.Projection i)) ts) t k = k
loose_there w s t k = absurd t

loose_goal : (w : World) (g : Tree) → TakesValues (statement_of g) → KeepsAliases (statement_of (inst w g)) → ⊥
loose_goal w (node (label.List list.Binder) (more v (more s empty))) t k = loose_there w s t k
loose_goal w g t k = absurd t

pub alias_kind : (w : World) (a : Tree) → IsAlias a → kind_of (inst w a) ≡ kind_of a
alias_kind w a x = ap (λ z. kind_of (inst w z)) x.is ∙ by_head x.head ∙ ap kind_of (sym x.is)
  where
    by_head : (h : AliasHead) → kind_of (inst w (alias h x.parts)) ≡ kind_of (alias h x.parts)
    by_head (alias_of.Ty i) = refl
    by_head (alias_of.Const i) = refl

no_region : (a : Tree) → IsAlias a → kind_of a ≡ Some (of_sort sort.Region) → ⊥
no_region a x e = by_head x.head (sym (ap kind_of x.is) ∙ e)
  where
    by_head : (h : AliasHead) → kind_of (alias h x.parts) ≡ Some (of_sort sort.Region) → ⊥
    by_head (alias_of.Ty i) q = cc q
    by_head (alias_of.Const i) q = cc q

pub fits_alias : (s : Sort) (a t : Tree) → IsAlias a → kind_of a ≡ Some (of_sort s) → kind_of t ≡ kind_of a → Fits (kind_of_sort s) t
fits_alias sort.Ty a t i e k = k ∙ e
fits_alias sort.Const a t i e k = k ∙ e
fits_alias sort.Region a t i e k = absurd (no_region a i e)

module _ (h : Handler) (truth : Truth) (Proves : Tree → Tree → Type 0) (theory : IsTheory h truth Proves) where
  -- premises that a world of the later table proves, which goes on from one of the earlier
  pub record PosedAt (c d : Content) (w : World) (qs : List Premise) : Type 0 where
    pub reaches : Reaches truth 0 c d w
    pub goals : (q : Premise) → Among qs q → IsProvedIn (IsGrantedAsIs Proves) reaches.world q
    pub terms : AreTermsOf d qs

  as_is : (e g : Tree) → Proves e g → IsGrantedAsIs Proves e g
  as_is e g p = record { ground = theory.ground.ground e g p; proved = λ s. p }

  module _ (k : GoalKind) (c d : Content) (p : Premise) (ps : List Premise) (x : PutsNew k c p d ps) (w : World) (s : IsSolution truth 0 c w) (plain : IsPlainWorld c w) (granted : IsGranted Proves (inst w p.environment) (inst w p.predicate)) where
    abbrev Equal : Tree → Tree → Type 0
    Equal a v = IsAliasFree v × Proves (inst w p.environment) (alias_relation direction.Equate a v) × NamesAll leaf_level c.universe v

    values_fit : (ss : List Sort) (zs : List Pair) (ts : List Tree) → AreOfSorts ss zs → AllEqual c w s.solves.fitting plain Equal zs ts → AreValuesOf ss ts
    values_fit [] [] [] o e = tt
    values_fit [] [] (t ∷ ts) o e = absurd e
    values_fit [] (z ∷ zs) ts o e = absurd o
    values_fit (a ∷ ss) [] ts o e = absurd o
    values_fit (a ∷ ss) (z ∷ zs) [] o e = absurd e
    values_fit (a ∷ ss) (z ∷ zs) (t ∷ ts) o e =
        let (kz, i, closed, (free, equal, named)) = e.0 in
        let there = alias_there c w s.solves.fitting plain Equal z.left kz i in
        let f = theory.ground.formed (inst w p.environment) (alias_relation direction.Equate (inst w z.left) t) equal in
        let kind = (theory.equates (inst w p.environment) (inst w z.left) t there (inl equal) closed (free_none t free)).1 in
        (record { fits = fits_alias a z.left t i o.0 (kind ∙ alias_kind w z.left i); formed = f.1.0.1.1.0.1.1.0; closed = closed }, values_fit ss zs ts o.1 e.1)

    values_named : (zs : List Pair) (ts : List Tree) → AllEqual c w s.solves.fitting plain Equal zs ts → AreNamedValues leaf_level c.universe ts
    values_named [] [] e = tt
    values_named [] (t ∷ ts) e = absurd e
    values_named (z ∷ zs) [] e = absurd e
    values_named (z ∷ zs) (t ∷ ts) e = (let (kz, i, closed, (free, equal, named)) = e.0 in (named, values_named zs ts e.1))

    values_free : (zs : List Pair) (ts : List Tree) → AllEqual c w s.solves.fitting plain Equal zs ts → (v : Tree) → Among ts v → IsAliasFree v
    values_free [] [] e v i = absurd i
    values_free [] (t ∷ ts) e v i = absurd e
    values_free (z ∷ zs) [] e v i = absurd e
    values_free (z ∷ zs) (t ∷ ts) e v (inl q) = (let (kz, i, closed, (free, equal, named)) = e.0 in subst IsAliasFree (sym q) free)
    values_free (z ∷ zs) (t ∷ ts) e v (inr i) = values_free zs ts e.1 v i

    all_are : (v : World) (zs : List Pair) (ts : List Tree) → map (inst v) (map (λ (z : Pair). z.right) zs) ≡ ts → AllAre c w s.solves.fitting plain Equal v zs ts
    all_are v [] [] e = tt
    all_are v [] (t ∷ ts) e = cc e
    all_are v (z ∷ zs) [] e = cc e
    all_are v (z ∷ zs) (t ∷ ts) e =
        let one : inst v z.right ≡ t = cc e in
        let rest : map (inst v) (map (λ (y : Pair). y.right) zs) ≡ ts = cc e in
        (one, all_are v zs ts rest)

    rights_are : (v : World) (zs : List Pair) (ys ts : List Tree) → map (λ (z : Pair). z.right) zs ≡ ys → map (inst v) ys ≡ ts → AllAre c w s.solves.fitting plain Equal v zs ts
    rights_are v zs ys ts e images = all_are v zs ts (subst (λ z. map (inst v) z ≡ ts) (sym e) images)

    -- each pair is proved to be equal
    pair_proved : (v : World) (zs : List Pair) (ts : List Tree) → AllEqual c w s.solves.fitting plain Equal zs ts → AllAre c w s.solves.fitting plain Equal v zs ts → ((y : Tree) → Knows c y → inst v y ≡ inst w y) → (z : Pair) → Among zs z
        → Proves (inst w p.environment) (alias_relation direction.Equate (inst v z.left) (inst v z.right))
    pair_proved v [] ts e a same z i = absurd i
    pair_proved v (y ∷ zs) [] e a same z i = absurd e
    pair_proved v (y ∷ zs) (t ∷ ts) e a same z (inl q) =
        let (ky, i, closed, (free, equal, named)) = e.0 in
        subst (λ (r : Pair). Proves (inst w p.environment) (alias_relation direction.Equate (inst v r.left) (inst v r.right))) (sym q) (rw (same y.left ky, a.0) equal)
    pair_proved v (y ∷ zs) (t ∷ ts) e a same z (inr i) = pair_proved v zs ts e.1 a.1 same z i

    posed_each : (v : World) (zs : List Pair) (t : Tree) → ((z : Pair) → Among zs z → IsProvedIn (IsGrantedAsIs Proves) v (choice k p z.left z.right)) → IsProvedIn (IsGrantedAsIs Proves) v (record p { predicate = t }) → (q : Premise) → Among (posed_with k p zs t) q → IsProvedIn (IsGrantedAsIs Proves) v q
    posed_each v [] t each last q (inl e) = subst (IsProvedIn (IsGrantedAsIs Proves) v) (sym e) last
    posed_each v [] t each last q (inr i) = absurd i
    posed_each v (z ∷ zs) t each last q (inl e) = subst (IsProvedIn (IsGrantedAsIs Proves) v) (sym e) (each z (inl refl))
    posed_each v (z ∷ zs) t each last q (inr i) = posed_each v zs t (λ y j. each y (inr j)) last q i

    pub posed_one : PosedAt c d w ps
    posed_one =
        let e' = inst w p.environment in
        let g' = inst w p.predicate in
        let values = granted.with_values (loose_goal w p.predicate x.says) in
        let formed = theory.ground.formed e' values.goal values.proved in
        let whole = IsFormed-inst c w p.predicate s.solves.fitting x.knows.1 x.formed.1 in
        let names : NamesAll leaf_level c.universe (pair e' g') = (names_image truth 0 c w s x.current p.environment x.knows.0, (names_image truth 0 c w s x.current p.predicate x.knows.1, tt)) in
        let y = named_values h truth Proves theory c.universe e' g' (formed.0, (whole, tt)) names values in
        let m = matched c w s.solves.fitting plain Equal x.put x.knows.1 x.formed.1 y.goal y.values in
        let f = freshened truth 0 c.universe x.sorts x.variables m.values c d w x.proper x.fresh (values_fit x.sorts x.pairs m.values x.of_sorts m.equal) (values_named x.pairs m.values m.equal) (values_free x.pairs m.values m.equal) s in
        let are = rights_are f.world x.pairs x.variables m.values x.rights f.images in
        let same : (z : Tree) → Knows c z → inst f.world z ≡ inst w z = λ z kz. inst-agrees c w f.world z f.agrees kz in
        let image : inst f.world x.goal ≡ y.goal = m.image f.world same are in
        let env : inst f.world p.environment ≡ e' = same p.environment x.knows.0 in
        let each = posed_each f.world x.pairs x.goal
        (λ z i. rw env (as_is e' (alias_relation direction.Equate (inst f.world z.left) (inst f.world z.right)) (pair_proved f.world x.pairs m.values m.equal are same z i)))
        (rw (env, image) (as_is e' y.goal y.proved)) in
        record {
          reaches = record { world = f.world; agrees = f.agrees; solution = f.solution; plain = f.plain; longer = f.longer; keeps = f.keeps };
          goals = λ q i. each q (subst (λ z. Among z q) x.posed i);
          terms = record { environments = λ q i. (x.terms q i).0; predicates = λ q i. (x.terms q i).1 };
        }

  weaker : (e g : Tree) → IsGranted Proves e g → IsGrantedAsIs Proves e g
  weaker e g x = record { ground = x.ground; proved = x.proved }

  -- .. and so are all premises
  pub all_posed : (k : GoalKind) (c d : Content) (ps qs : List Premise) → Poses k c ps d qs → (w : World) → IsSolution truth 0 c w → IsPlainWorld c w → AreTermsOf c ps → ((p : Premise) → Among ps p → IsProvedIn (IsGranted Proves) w p) → PosedAt c d w qs
  all_posed k c d ps qs poses_none w s plain terms granted =
      record { reaches = reaches_self truth 0 c w s; goals = λ q i. absurd i; terms = terms }
  all_posed k c d ps qs (as_it_is {ps = rest} {qs = others} p poses) w s plain terms granted =
      let y = all_posed k c d rest others poses w s plain (record { environments = λ q i. terms.environments q (inr i); predicates = λ q i. terms.predicates q (inr i) }) (λ q i. granted q (inr i)) in
      let r = y.reaches in
      let ke = terms.environments p (inl refl) in
      let kp = terms.predicates p (inl refl) in
      let here = still_proved truth 0 (IsGrantedAsIs Proves) c w r.world p r.agrees ke kp (weaker (inst w p.environment) (inst w p.predicate) (granted p (inl refl))) in
      record {
        reaches = r;
        goals = λ q i. elim i [ inl e ↦ subst (IsProvedIn (IsGrantedAsIs Proves) r.world) (sym e) here | inr j ↦ y.goals q j ];
        terms = record {
          environments = λ q i. elim i [ inl e ↦ subst (λ (z : Premise). Knows d z.environment) (sym e) (Knows-kept c d p.environment r.keeps ke) | inr j ↦ y.terms.environments q j ];
          predicates = λ q i. elim i [ inl e ↦ subst (λ (z : Premise). Knows d z.predicate) (sym e) (Knows-kept c d p.predicate r.keeps kp) | inr j ↦ y.terms.predicates q j ];
        };
      }
  all_posed k c d ps qs (with_variables {d = m} {ps = rest} {qs = others} p xs puts poses) w s plain terms granted =
      let one = posed_one k c m p xs puts w s plain (granted p (inl refl)) in
      let r = one.reaches in
      let y = all_posed k m d rest others poses r.world r.solution (r.plain plain)
      (record { environments = λ q i. Knows-kept c m q.environment r.keeps (terms.environments q (inr i)); predicates = λ q i. Knows-kept c m q.predicate r.keeps (terms.predicates q (inr i)) })
      (λ q i. still_proved truth 0 (IsGranted Proves) c w r.world q r.agrees (terms.environments q (inr i)) (terms.predicates q (inr i)) (granted q (inr i))) in
      let z = y.reaches in
      record {
        reaches = reaches_trans truth 0 c m d w r z;
        goals = λ q i. elim (among_split xs others q i) [
          | inl j ↦ still_proved truth 0 (IsGrantedAsIs Proves) m r.world z.world q z.agrees (one.terms.environments q j) (one.terms.predicates q j) (one.goals q j)
          | inr j ↦ y.goals q j
        ];
        terms = record {
          environments = λ q i. elim (among_split xs others q i) [ inl j ↦ Knows-kept m d q.environment z.keeps (one.terms.environments q j) | inr j ↦ y.terms.environments q j ];
          predicates = λ q i. elim (among_split xs others q i) [ inl j ↦ Knows-kept m d q.predicate z.keeps (one.terms.predicates q j) | inr j ↦ y.terms.predicates q j ];
        };
      }

  -- so where a candidate is begun, its goals are granted as they are posed
  pub posed_begun : (k : GoalKind) (c met d : Content) (w : World) (ps qs : List Premise) → IsPlainWorld c w → BegunAt truth (IsGranted Proves) c met w ps → Poses k met ps d qs → BegunAt truth (IsGrantedAsIs Proves) c d w qs
  posed_begun k c met d w ps qs plain b poses =
      let r = b.reaches in
      let y = all_posed k met d ps qs poses r.world r.solution (r.plain plain) b.terms b.goals.goals in
      let z = reaches_trans truth 0 c met d w r y.reaches in
      record {
        reaches = z;
        goals = record { solution = z.solution; plain = z.plain plain; goals = y.goals };
        terms = y.terms;
      }
