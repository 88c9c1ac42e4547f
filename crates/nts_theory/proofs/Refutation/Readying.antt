-- A goal that is proved in a world of a query's table has a candidate that can be begun, in the table in which it is answered.
use Rattle.std.proofs.Common.{ℕ, ◌≡◌, ◌+◌, Bool, true, false, length, Option, Some, None, refl, sym, ap, subst, ◌∙◌, arith, inl, inr}
use Rattle.std.specs.Prelude.{slice_get}
use Rattle.nts_model.specs.declared.labels.Sort.{Sort}
use Rattle.nts_model.specs.declared.labels.Sort.TheVariants as sort
use Rattle.nts_model.specs.declared.labels.VariableKind.{VariableKind}
use Rattle.nts_model.specs.declared.labels.Leaf.TheVariants as leaf
use Rattle.nts_model.specs.declared.labels.ListHead.TheVariants as list
use Rattle.nts_model.specs.declared.labels.ClauseHead.TheVariants as clause
use Rattle.nts_model.specs.declared.labels.PredicateHead.TheVariants as predicate
use Rattle.nts_model.specs.declared.labels.Label.TheVariants as label
use Rattle.nts_model.specs.Terms.Trees.{Tree, empty, more, node, IsClosed, IsFormed}
use Rattle.nts_model.specs.Tables.Contents.{Content, Slot, map_slot, universe_of, kind_at, in_universe}
use Rattle.nts_model.specs.Tables.Resolving.{Knows}
use Rattle.nts_model.specs.Terms.Placeholders.{leaf_level}
use Rattle.nts_model.specs.Tables.Levels.{NamesAll, AreCurrent}
use Rattle.nts_model.specs.Tables.Worlds.{World, inst}
use Rattle.nts_model.specs.Terms.Substitutions.{leaf_tree}
use Rattle.nts_model.specs.Derivations.Related.{pair, unbound}
use Rattle.nts_model.specs.Lists.{Among}
use Rattle.nts_model.specs.Derivations.Rules.{coherence, statement_of, opened, IsHandlers}
use Rattle.nts_model.specs.Refutation.Opening.{binds, placeholder_in, entered_table, opened_in}
use Rattle.nts_model.specs.Derivations.Handlers.{Handler, Candidate, IsAsked, IsLawfulHandler}
use Rattle.nts_model.specs.Answers.Applying.{IsProperContent}
use Rattle.nts_model.specs.Refutation.Containing.{Truth, IsSolution, IsPlainWorld}
use Rattle.nts_model.specs.Refutation.Coherence.{RulesAreOffered}
use Rattle.nts_theory.specs.Telling.{IsTraitStatement, IsTraitGoal, IsAliasStatement, IsAliasGoal}
use Rattle.nts_theory.specs.Refutation.Refutation.{UsesNamed, binding, IsTheory, IsPlainFor, IsGranted, IsGrantedAsAsked}
use Rattle.nts_model.proofs.Tables.Instances.{Agrees-refl}
use Rattle.nts_model.proofs.Tables.Fitting.{IsClosed-inst, IsFormed-inst}
use Rattle.nts_model.proofs.Tables.Solving.{NamesAll-more, Solves-in_universe}
use Rattle.nts_theory.proofs.Refutation.Answered.{solution_later}
use Rattle.nts_theory.proofs.Refutation.OpenedGoals.{inst_opened}
use Rattle.nts_theory.proofs.Refutation.OfferMeeting.{handlers_inst}
use Rattle.nts_theory.proofs.Refutation.Offering.{world_instance, world_instance_in, meets_used}
use Rattle.nts_theory.proofs.Refutation.Opening.{CanBegin, can_begin}
use Rattle.nts_theory.proofs.Derivations.ClosedStatements.{one_statement as same_statement}
use Rattle.nts_theory.proofs.Refutation.PlainTerms.{leaf_free}
use Rattle.nts_theory.proofs.Refutation.UsedRules.{handlers_before}
use Rattle.nts_theory.proofs.Refutation.Freshening.{knows_leaf}

-- in a solution the current universe names the image of each term of the table
module _ (truth : Truth) (base : ℕ) (c : Content) (w : World) (s : IsSolution truth base c w) (current : AreCurrent c) where
  variable_image : (k : VariableKind) (n : ℕ) → kind_at c n ≡ Some k → NamesAll leaf_level c.universe (w.tree n)
  variable_image k n e = by_slot (slice_get c.slots n) refl
    where
      by_slot : (o : Option Slot) → slice_get c.slots n ≡ o → NamesAll leaf_level c.universe (w.tree n)
      by_slot None q = absurd (let z : map_slot (λ x. x.kind) None ≡ Some k = ap (map_slot (λ x. x.kind)) (sym q) ∙ e in cc z)
      by_slot (Some v) q =
          let there : universe_of c n ≡ Some v.universe = ap (map_slot (λ x. x.universe)) q in
          NamesAll-more leaf_level v.universe c.universe (w.tree n) (current.universes n v.universe there) (rw there at (s.named.each n))

  pub names_image : (t : Tree) → Knows c t → NamesAll leaf_level c.universe (inst w t)
  names_image empty k = tt
  names_image (more a b) k = (names_image a k.0, names_image b k.1)
  names_image (node (label.Leaf (leaf.Variable v n)) t) k = variable_image v n k.0.0
  names_image (node (label.Leaf (leaf.Region r)) t) k = (s.low r (k.0.1), names_image t k.1)
  names_image (node (label.Leaf (leaf.TyConstant a)) t) k = (k.0.1, names_image t k.1)
  names_image (node (label.Leaf (leaf.ConstConstant a)) t) k = (k.0.1, names_image t k.1)
  names_image (node (label.Bound a b n) t) k = (tt, names_image t k.1)
  names_image (node (label.Ty x) t) k = (tt, names_image t k.1)
  names_image (node (label.Const x) t) k = (tt, names_image t k.1)
  names_image (node (label.Clause x) t) k = (tt, names_image t k.1)
  names_image (node (label.Predicate x) t) k = (tt, names_image t k.1)
  names_image (node (label.List x) t) k = (tt, names_image t k.1)

pub record SomeBegins (h : Handler) (truth : Truth) (Proves : Tree → Tree → Type 0) (c : Content) (e g : Tree) (w : World) : Type 0 where
  pub candidate : Candidate
  pub offered : Among (h.offers coherence e (opened_in c g)) candidate
  pub solution : IsSolution truth 0 (entered_table c g) w
  pub begins : CanBegin truth (IsGranted Proves) (entered_table c g) w e candidate

pub record IsBinding (g : Tree) : Type 0 where
  pub first : Tree
  pub rest : Tree
  pub says : Tree
  pub is : g ≡ binding first rest says

pub binding_shape : (g : Tree) → binds g ≡ true → IsBinding g
binding_shape (node (label.List list.Binder) (more (node (label.List list.Sorts) (more x xs)) (more s empty))) e = record { first = x; rest = xs; says = s; is = refl }
binding_shape g e = cc e

module _ (h : Handler) (truth : Truth) (Proves : Tree → Tree → Type 0) (theory : IsTheory h truth Proves) (lawful : IsLawfulHandler h) (law : RulesAreOffered h) where
  -- by what the world uses
  begins_by : (c : Content) (w : World) (e g : Tree) (asked : IsAsked e g) → Knows c (pair e g) → IsProperContent c → IsSolution truth 0 c w → IsPlainWorld c w → UsesNamed h truth Proves c.universe (inst w e) (inst w asked.statement)
      → (x : Candidate) × Among (h.offers coherence e g) x × CanBegin truth (IsGranted Proves) c w e x
  begins_by c w e g asked known proper s free u =
      let ι = world_instance c w s.solves.fitting s.fixed (pair e g) asked.formed known in
      let same = world_instance_in c w s.solves.fitting s.fixed (pair e g) asked.formed known in
      let plain : IsPlainFor w (pair e g) = λ l i. leaf_free c w free l (knows_leaf c l (pair e g) i known) in
      let m = meets_used h truth Proves law lawful.keep c.universe e g asked w ι same plain u in
      (m.meets.candidate, m.meets.offered, can_begin h truth Proves e g asked lawful.keep ι c w s same known proper m)

  later_solution : (c : Content) (w : World) → IsSolution truth 0 c w → IsSolution truth 0 (in_universe c (c.universe + 1)) w
  later_solution c w s =
      solution_later truth 0 c (in_universe c (c.universe + 1)) w w s (omega arith) (Agrees-refl (length c.slots) w) (Solves-in_universe c (c.universe + 1) w s.solves) (record { each = λ n. s.named.each n })

  pub themselves : (c : Content) (w : World) → IsSolution truth 0 c w → (o : Sort) (n : ℕ) → inst w (leaf_tree (placeholder_in (c.universe + 1) o n)) ≡ leaf_tree (placeholder_in (c.universe + 1) o n)
  themselves c w s sort.Ty n = refl
  themselves c w s sort.Const n = refl
  themselves c w s sort.Region n = ap (λ z. leaf_tree (leaf.Region z)) (s.new (c.universe + 1) n (omega arith))

  module _ (c : Content) (e g : Tree) (w : World) (s : IsSolution truth 0 c w) (current : AreCurrent c) (known : Knows c (pair e g)) (free : IsPlainWorld c w) (granted : IsGrantedAsAsked Proves (inst w e) (inst w g)) where
    -- a goal that binds nothing
    begins_plain : IsAsked e g → IsHandlers (statement_of g) → IsProperContent c → (x : Candidate) × Among (h.offers coherence e g) x × CanBegin truth (IsGranted Proves) c w e x
    begins_plain asked said proper =
        let is : g ≡ unbound asked.statement = asked.binds_nothing in
        let there : Knows c (unbound asked.statement) = subst (Knows c) is (known.1.0) in
        let ks : Knows c asked.statement = there.1.1.0 in
        let closed : IsClosed (inst w asked.statement) = IsClosed-inst c w 0 asked.statement s.solves.fitting ks (let k = asked.closed in k.1.0) in
        let says : IsHandlers asked.statement = subst (λ z. IsHandlers (statement_of z)) is said in
        let here : IsGrantedAsAsked Proves (inst w e) (unbound (inst w asked.statement)) = subst (λ z. IsGrantedAsAsked Proves (inst w e) (inst w z)) is granted in
        let u = theory.plain c.universe (inst w e) (inst w asked.statement) (here.proved (inr (handlers_inst w asked.statement says))) (handlers_inst w asked.statement says) closed
        (names_image truth 0 c w s current e known.0, (names_image truth 0 c w s current asked.statement ks, tt)) in
        begins_by c w e g asked known proper s free u

    -- .. and one that binds variables
    begins_binding : IsBinding g → (let d = in_universe c (c.universe + 1) in let o = unbound (opened (placeholder_in (c.universe + 1)) 0 (statement_of g)) in (asked : IsAsked e o) → IsHandlers (statement_of o) → Knows d (pair e o) → IsProperContent d
        → (x : Candidate) × Among (h.offers coherence e o) x × CanBegin truth (IsGranted Proves) d w e x)
    begins_binding b asked said there proper =
        let d = in_universe c (c.universe + 1) in
        let p = placeholder_in (c.universe + 1) in
        let t = b.says in
        let now : Knows c (binding b.first b.rest t) = subst (Knows c) b.is (known.1.0) in
        let kt : Knows c t = now.1.1.0 in
        let says : asked.statement ≡ opened p 0 t = sym (same_statement (opened p 0 (statement_of g)) asked.statement asked.binds_nothing) ∙ ap (λ z. opened p 0 (statement_of z)) b.is in
        let image : inst w asked.statement ≡ opened p 0 (inst w t) = ap (inst w) says ∙ inst_opened c w s.solves.fitting p (themselves c w s) 0 t kt in
        let later = later_solution c w s in
        let ks : Knows d asked.statement = (let k : Knows d (unbound asked.statement) = subst (Knows d) asked.binds_nothing (there.1.0) in k.1.1.0) in
        let fs : IsFormed asked.statement = (let f : IsFormed (unbound asked.statement) = subst IsFormed asked.binds_nothing (let f = asked.formed in f.1.0) in f.1.1.0) in
        let formed : IsFormed (opened p 0 (inst w t)) = subst IsFormed image (IsFormed-inst d w asked.statement later.solves.fitting ks fs) in
        let same : unbound (opened p 0 (statement_of g)) ≡ unbound asked.statement = asked.binds_nothing in
        let trait_says : IsHandlers asked.statement = subst (λ z. IsHandlers (statement_of z)) same said in
        let is_trait : IsHandlers (opened p 0 (inst w t)) = subst IsHandlers image (handlers_inst w asked.statement trait_says) in
        let here : IsGrantedAsAsked Proves (inst w e) (binding (inst w b.first) (inst w b.rest) (inst w t)) = subst (λ z. IsGrantedAsAsked Proves (inst w e) (inst w z)) b.is granted in
        let u = theory.opened c.universe (inst w e) (inst w b.first) (inst w b.rest) (inst w t) (here.proved (inr (handlers_before p 0 (inst w t) is_trait))) is_trait formed
        (names_image truth 0 c w s current e known.0, (names_image truth 0 c w s current t kt, tt)) in
        begins_by d w e (unbound (opened p 0 (statement_of g))) asked there proper later (record { each = λ n k e. free.each n k e }) (subst (UsesNamed h truth Proves (c.universe + 1) (inst w e)) (sym image) u)

    pub some_begins : IsAsked e (opened_in c g) → IsHandlers (statement_of (opened_in c g)) → Knows (entered_table c g) (pair e (opened_in c g)) → IsProperContent (entered_table c g) → SomeBegins h truth Proves c e g w
    some_begins asked says knows proper = by_bool (binds g) refl
      where
        by_bool : (b : Bool) → binds g ≡ b → SomeBegins h truth Proves c e g w
        by_bool false q =
            let there : entered_table c g ≡ c = rw q refl in
            let o : opened_in c g ≡ g = rw q refl in
            let x = begins_plain (subst (IsAsked e) o asked) (subst (λ z. IsHandlers (statement_of z)) o says) (subst IsProperContent there proper) in
            record {
              candidate = x.0;
              offered = subst (λ z. Among (h.offers coherence e z) x.0) (sym o) x.1;
              solution = subst (λ z. IsSolution truth 0 z w) (sym there) s;
              begins = subst (λ z. CanBegin truth (IsGranted Proves) z w e x.0) (sym there) x.2;
            }
        by_bool true q =
            let there : entered_table c g ≡ in_universe c (c.universe + 1) = rw q refl in
            let o : opened_in c g ≡ unbound (opened (placeholder_in (c.universe + 1)) 0 (statement_of g)) = rw q refl in
            let known_there = subst (λ z. Knows z (pair e (unbound (opened (placeholder_in (c.universe + 1)) 0 (statement_of g))))) there (subst (λ z. Knows (entered_table c g) (pair e z)) o knows) in
            let x = begins_binding (binding_shape g q) (subst (IsAsked e) o asked) (subst (λ z. IsHandlers (statement_of z)) o says) known_there (subst IsProperContent there proper) in
            record {
              candidate = x.0;
              offered = subst (λ z. Among (h.offers coherence e z) x.0) (sym o) x.1;
              solution = subst (λ z. IsSolution truth 0 z w) (sym there) (later_solution c w s);
              begins = subst (λ z. CanBegin truth (IsGranted Proves) z w e x.0) (sym there) x.2;
            }

-- a trait goal is one that a clause may serve
clause_of_trait : (s : Tree) → IsTraitStatement s → IsHandlers s
clause_of_trait (node (label.Clause (clause.Trait i)) ts) h = tt
clause_of_trait (node (label.Clause (clause.HostEffect i)) ts) h = tt
clause_of_trait s h = absurd h

pub says_trait : (e g : Tree) → IsTraitGoal e g → IsHandlers (statement_of g)
says_trait e g t = clause_of_trait (statement_of g) t.statement

-- .. and so is one about an alias
clause_of_alias : (s : Tree) → IsAliasStatement s → IsHandlers s
clause_of_alias (node (label.Clause (clause.Projection i)) ts) h = tt
clause_of_alias (node (label.Predicate (predicate.NormalizesTo i)) ts) h = tt
clause_of_alias s h = absurd h

pub says_alias : (e g : Tree) → IsAliasGoal e g → IsHandlers (statement_of g)
says_alias e g (inl a) = clause_of_alias (statement_of g) a
says_alias e g (inr t) = clause_of_trait (statement_of g) t.0
