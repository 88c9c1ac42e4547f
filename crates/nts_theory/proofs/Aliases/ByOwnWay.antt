-- A goal whose own way by the engine holds is proved.
use Rattle.std.proofs.Common.{◌≡◌, ◌⊎◌, inl, inr, ⊎_elim, ℕ, ◌+◌, Bool, List, [], ◌∷◌, map, Some, refl, sym, ap, ◌∙◌, subst, true}
use Rattle.nts_model.specs.declared.labels.Sort.{Sort}
use Rattle.nts_model.specs.declared.labels.Leaf.{Leaf}
use Rattle.nts_model.specs.declared.labels.ListHead.TheVariants as list
use Rattle.nts_model.specs.declared.labels.Label.TheVariants as label
use Rattle.nts_model.specs.declared.labels.Variance.{Variance}
use Rattle.nts_model.specs.Terms.Trees.{Tree, empty, more, node, kind_of, any_argument, FitsPlace, IsClosed, IsFormed}
use Rattle.nts_model.specs.Tables.Contents.{Content}
use Rattle.nts_model.specs.Tables.Resolving.{Knows, deeply_resolved, IsSound}
use Rattle.nts_model.specs.Tables.Levels.{IsLevelled, AreRegionsLevelled, AreCurrent}
use Rattle.nts_model.specs.Tables.Holding.{Continues}
use Rattle.nts_model.specs.Terms.Substitutions.{Instance, instance_of, filled}
use Rattle.nts_model.specs.Derivations.Related.{Constraint, pair, unbound, value}
use Rattle.nts_model.specs.Lists.{Among}
use Rattle.nts_model.specs.Derivations.Sequents.{Premise, misc, Hides}
use Rattle.nts_model.specs.Derivations.Rules.{Meaning, Mode, other_goal, statement_kind, goal_kind, step_kind, proof_kind, Stands, statement_of, opened, AreFresh, bound, IsBuiltIn, const_typed, formed, of_value, IsPlainRule, IsRule, related}
use Rattle.nts_model.specs.Derivations.Handlers.{Handler, Candidate, meaning, goals_in, AreValuesOf, Judgements, JudgementsAreKept}
use Rattle.nts_model.specs.Derivations.Proofs.{Assumed, passed, by_rule}
use Rattle.nts_model.specs.Derivations.Proving.{HoldsTerms, AreConstraintsOf, IsTermOf, AreEquated, read_constraints, sequent_at}
use Rattle.nts_model.specs.Searching.Stacks.{IsProvedFrom, IsProvedFromAt, HoldsCandidateFrom}
use Rattle.nts_model.specs.Refutation.Opening.{binds, placeholder_in, opened_in}
use Rattle.nts_model.proofs.Tables.ResolvedTerms.{IsFormed-deeply_resolved}
use Rattle.nts_model.proofs.Tables.Resolved.{deeply_resolved-deeply_resolved}
use Rattle.nts_model.proofs.Tables.Kept.{kind_of-deeply_resolved}
use Rattle.nts_model.proofs.Tables.Open.{Knows-deeply_resolved}
use Rattle.nts_model.proofs.Terms.Unpositioned.{IsFormedTerm, formed_term, filled-none, known_no_positions, known_well_bound}
use Rattle.nts_model.proofs.Terms.Composing.{itself, instance_of-itself}
use Rattle.nts_model.proofs.Terms.Identified.{one_itself, one_trans}
use Rattle.nts_model.proofs.Tables.TableInstances.{reading_of, instance_of-reading}
use Rattle.nts_theory.specs.Affirming.{has_type, is_well_formed, goals_there, IsOwnWay, by_type, by_goals, HasOwnWay}
use Rattle.nts_theory.proofs.Derivations.ByCandidate.{IsGranted, GrantsEqual, alike_granted, read_itself}
use Rattle.nts_theory.proofs.Derivations.Monotone.{rule_more, related_more}
use Rattle.nts_theory.proofs.Derivations.Owing.{IsServedFrom, at_premise, derive_all_from, owes_from, from_then, from_both, from_one, from_all}
use Rattle.nts_theory.proofs.Derivations.Relating.{Relates, alike_related, Chooses, chooses_grows, chooses_itself}
use Rattle.nts_theory.proofs.Derivations.Served.{keeps_or_not}
use Rattle.nts_theory.proofs.Derivations.ClosedStatements.{one_statement}
use Rattle.nts_theory.proofs.Derivations.Monotone.{stands_more}
use Rattle.nts_theory.proofs.Refutation.OpenedProofs.{fresh_later}
use Rattle.nts_theory.proofs.Refutation.Saying.{was_type, was_formed}
use Rattle.nts_theory.proofs.Refutation.Stating.{no_positions}
use Rattle.nts_theory.proofs.Aliases.ByRelating.{Follows}
use Rattle.nts_theory.proofs.Aliases.ByEngine.{IsClosedThere, read_as, read_closed, goal_read, terms}
use Rattle.nts_theory.proofs.Aliases.OpenedRules.{opened_rule, statement_reads}

-- the steps from such a goal are not coinductive, opened or not
way_kind : (p : ℕ → Bool) (j : Judgements) (e u : Tree) (x : Candidate) → IsOwnWay j e u x → statement_kind p u ≡ other_goal
way_kind p j e u x by_type = refl
way_kind p j e u x (by_goals given) = refl

kind_before : (p : ℕ → Bool) (f : Sort → ℕ → Leaf) (j : Judgements) (e s u v : Tree) (x : Candidate) → IsOwnWay j e s x → (read : Tree → Tree) → ((b : ℕ) (a z : Tree) → read (has_type (value b a) z) ≡ has_type (value b (read a)) (read z)) → ((z : Tree) → read (is_well_formed z) ≡ is_well_formed (read z))
    → u ≡ read s → u ≡ opened f 0 v → statement_kind p v ≡ other_goal
kind_before p f j e s u v x (by_type {b = b} {u = a} {t = z}) read typed one is o = (let w = was_type f v b (read a) (read z) (sym o ∙ is ∙ typed b a z) in ap (statement_kind p) w.is)
kind_before p f j e s u v x (by_goals {t = z} given) read typed one is o = (let w = was_formed f v (read z) (sym o ∙ is ∙ one z) in ap (statement_kind p) w.is)

kind_read : (ι : Instance) (p : ℕ → Bool) (j : Judgements) (e u : Tree) (x : Candidate) → IsOwnWay j e u x → statement_kind p (instance_of ι u) ≡ other_goal
kind_read ι p j e u x by_type = refl
kind_read ι p j e u x (by_goals given) = refl

no_values : (vs : List Tree) → AreValuesOf [] vs → vs ≡ []
no_values [] h = refl
no_values (v ∷ vs) h = absurd h

image_of : (e : Tree) (f : Tree → Tree) (ps : List Tree) (q : Premise) → Among (goals_there e (map f ps)) q → (p : Tree) × Among ps p × (q ≡ record { source = misc; environment = e; predicate = f p })
image_of e f [] q i = absurd i
image_of e f (p ∷ ps) q (inl same) = (p, inl refl, same)
image_of e f (p ∷ ps) q (inr i) = (let r = image_of e f ps q i in (r.0, inr r.1, r.2))

asked_there : (e : Tree) (ps : List Tree) (p : Tree) → Among ps p → Among (goals_there e ps) (record { source = misc; environment = e; predicate = p })
asked_there e [] p i = absurd i
asked_there e (q ∷ ps) p (inl same) = inl (ap (λ z. record { source = misc; environment = e; predicate = z }) same)
asked_there e (q ∷ ps) p (inr i) = inr (asked_there e ps p i)

module _ (h : Handler) (V : ℕ → List Variance) (law : JudgementsAreKept h) (mode : Mode) (A : List Assumed) (c : Content) (s : IsSound c) (t : HoldsTerms c) (k : AreConstraintsOf c) (e : Tree) (ke : IsTermOf c e) (env : IsClosedThere e) where
  abbrev m : Meaning
  m = meaning h V

  abbrev here : Tree
  here = deeply_resolved c e

  abbrev cs : List Constraint
  cs = read_constraints c c.constraints

  abbrev nothing : Premise → Type 0
  nothing q = ⊥

  abbrev read : Tree → Tree
  read = instance_of (reading_of c s t)

  abbrev Owed : ((Premise → Type 0) → Type 0) → Type 0
  Owed = Follows m mode A c s t k e ke (read_closed m mode A c s t k e ke env)

  -- a rule of the engine gives what the table reads from premises that are served
  abbrev Given : Tree → (Premise → Type 0) → Type 0
  Given u P = IsBuiltIn m (λ z. Unit {0}) (IsGranted c) (Stands (λ y. Unit {0}) P other_goal) here (read u)

  formed_here : IsFormed here
  formed_here = IsFormed-deeply_resolved c e s t ke.knows ke.formed

  -- a value's type, and the type that it is to have, are related
  type_given : (b : ℕ) (u v : Tree) → AreEquated c [] u v → Knows c u → Knows c v → IsFormed u → IsFormed v → Owed (Given (has_type (value b u) v))
  type_given b u v q ku kv fu fv =
      let ce = read_closed m mode A c s t k e ke env in
      let ri = read_itself c s t k in
      let su : filled [] u ≡ u = filled-none [] u (known_no_positions c u ku) in
      let sv : filled [] v ≡ v = filled-none [] v (known_no_positions c v kv) in
      let ru : read u ≡ deeply_resolved c u = read_as m mode A c s t k e ke env u ku fu in
      let rv : read v ≡ deeply_resolved c v = read_as m mode A c s t k e ke env v kv fv in
      let al = alike_granted c (deeply_resolved c u) (deeply_resolved c v) (rw (su, sv) at q.alike) (deeply_resolved-deeply_resolved c u s) (deeply_resolved-deeply_resolved c v s) in
      let formed_of = λ (w : Tree) (kw : Knows c w) (fw : IsFormed w). formed_term (deeply_resolved c w) (IsFormed-deeply_resolved c w s t kw fw) (known_no_positions c (deeply_resolved c w) (Knows-deeply_resolved c w s kw)) (known_well_bound c (deeply_resolved c w) (Knows-deeply_resolved c w s kw)) in
      let arg : FitsPlace any_argument (kind_of (deeply_resolved c u)) = subst (FitsPlace any_argument) (sym (kind_of-deeply_resolved c u s ku)) (rw su at q.argument) in
      let rel = alike_related m mode here cs formed_here ce ri (GrantsEqual c) (λ y w x. x) (deeply_resolved c u) (deeply_resolved c v) al (formed_of u ku fu) (formed_of v kv fv) arg in
      from_then m mode here cs (λ q. A) nothing (Relates m mode here cs formed_here ce ri (deeply_resolved c u) (deeply_resolved c v)) (Given (has_type (value b u) v))
      (λ P y. rw (ru, rv) (const_typed (value b (deeply_resolved c u)) (deeply_resolved c u) (inl (refl, λ i. tt)) of_value (related_more (λ w x. inl x) y)))
      (owes_from m mode here cs (λ q. A) nothing (Relates m mode here cs formed_here ce ri (deeply_resolved c u) (deeply_resolved c v)) (λ P Q f y. related_more (λ w z. (z.0, f _ z.1)) y) rel)

  -- a goal that is proved serves
  goal_served : (vs : List Tree) (p : Tree) → vs ≡ [] → filled [] p ≡ p → IsProvedFromAt m mode A c vs (record { source = misc; environment = e; predicate = p })
      → IsTermOf c p × IsServedFrom m mode here cs A nothing (record { source = misc; environment = here; predicate = deeply_resolved c p })
  goal_served vs p none sp x =
      let y : IsProvedFromAt m mode A c [] (record { source = misc; environment = e; predicate = p }) = subst (λ z. IsProvedFromAt m mode A c z (record { source = misc; environment = e; predicate = p })) none x in
      let se : filled [] e ≡ e = filled-none [] e (known_no_positions c e ke.knows) in
      let w = y.proved in
      let i = w.is_instance in (
        subst (IsTermOf c) sp y.predicate,
        record {
          sequent = w.sequent;
          reached = w.reached;
          instance = w.instance;
          environment = one_trans _ _ _ _ i.environment (one_itself _ _ _ (ap (deeply_resolved c) se));
          predicate = one_trans _ _ _ _ i.predicate (one_itself _ _ _ (ap (deeply_resolved c) sp));
          constraints = i.constraints;
          hidden = λ o j. ⊎_elim (λ v. v) (λ v. absurd v.1) (i.hidden o j);
          open_goals = i.open_goals;
        },
      )

  -- .. and stands
  goal_stands : (q : Premise) → q.environment ≡ here → IsFormedTerm q.predicate → IsServedFrom m mode here cs A nothing q → Owed (λ P. Stands (λ y. Unit {0}) P other_goal q)
  goal_stands q same f served =
      let ce = read_closed m mode A c s t k e ke env in
      let ri = read_itself c s t k in
      let B : Premise → List Assumed = λ z. A in
      ⊎_elim
      (λ keeps. from_then m mode here cs B nothing (λ P. P q) (λ P. Stands (λ y. Unit {0}) P other_goal q) (λ P z. inl (keeps, z)) (from_one m mode here cs B nothing q served))
      (λ loose. from_then m mode here cs B nothing (λ P. P q × Chooses m mode here cs formed_here ce ri other_goal q q.predicate P) (λ P. Stands (λ y. Unit {0}) P other_goal q) (λ P z. inr (loose, (q.predicate, z.1, z.0)))
      (from_both m mode here cs B nothing (λ P. P q) (Chooses m mode here cs formed_here ce ri other_goal q q.predicate) (λ P Q w z. w q z) (chooses_grows m mode here cs formed_here ce ri other_goal q q.predicate)
      (from_one m mode here cs B nothing q served)
      (owes_from m mode here cs B nothing (Chooses m mode here cs formed_here ce ri other_goal q q.predicate) (chooses_grows m mode here cs formed_here ce ri other_goal q q.predicate) (chooses_itself m mode here cs formed_here ce ri other_goal q q.predicate same f))))
      (keeps_or_not (statement_of q.predicate))

  one_stands : (vs : List Tree) (p : Tree) → vs ≡ [] → filled [] p ≡ p → IsProvedFromAt m mode A c vs (record { source = misc; environment = e; predicate = p }) → Owed (λ P. Stands (λ y. Unit {0}) P other_goal (record { source = misc; environment = here; predicate = read p }))
  one_stands vs p none sp x =
      let y = goal_served vs p none sp x in
      let kp = y.0 in
      let rp : read p ≡ deeply_resolved c p = read_as m mode A c s t k e ke env p kp.knows kp.formed in
      let known = Knows-deeply_resolved c p s kp.knows in
      let f = formed_term (deeply_resolved c p) (IsFormed-deeply_resolved c p s t kp.knows kp.formed) (known_no_positions c (deeply_resolved c p) known) (known_well_bound c (deeply_resolved c p) known) in
      subst (λ z. Owed (λ P. Stands (λ w. Unit {0}) P other_goal (record { source = misc; environment = here; predicate = z }))) (sym rp) (goal_stands (record { source = misc; environment = here; predicate = deeply_resolved c p }) refl f y.1)

  -- a term is well formed where its predicates stand
  goals_given : (u : Tree) (ps vs : List Tree) → vs ≡ [] → Knows c u → IsFormed u → (let j = h.judges in j.well_formed e u ≡ Some ps)
      → ((p : Tree) → Among ps p → IsProvedFromAt m mode A c vs (record { source = misc; environment = e; predicate = p })) → Owed (Given (is_well_formed u))
  goals_given u ps vs none ku fu given each =
      let j = h.judges in
      let B : Premise → List Assumed = λ z. A in
      let re : read e ≡ here = read_as m mode A c s t k e ke env e ke.knows ke.formed in
      let there : j.well_formed here (read u) ≡ Some (map read ps) = subst (λ z. j.well_formed z (read u) ≡ Some (map read ps)) re (law.well_formed e u ps (reading_of c s t) (ke.formed, (fu, tt)) given) in
      let plain = λ (p : Tree) (i : Among ps p). (let o = (law.goals e u ps p (ke.formed, (fu, tt)) given i).0 in filled-none [] p (no_positions p o.names)) in
      from_then m mode here cs B nothing (λ P. (q : Premise) → Among (goals_there here (map read ps)) q → Stands (λ y. Unit {0}) P other_goal q) (Given (is_well_formed u))
      (λ P f. formed (goals_there here (map read ps)) (ap (goals_in here) there) f)
      (from_all m mode here cs B nothing (λ q P. Stands (λ y. Unit {0}) P other_goal q) (λ q P Q f y. stands_more f other_goal q y) (goals_there here (map read ps))
      (λ q i. (let a = image_of here read ps q i in subst (λ z. Owed (λ P. Stands (λ y. Unit {0}) P other_goal z)) (sym a.2) (one_stands vs a.0 none (plain a.0 a.1) (each a.0 a.1)))))

  -- so is what the way gives
  way_given : (g u : Tree) (x : Candidate) → goal_kind m g ≡ other_goal → IsOwnWay h.judges e u x → Knows c u → IsFormed u → HoldsCandidateFrom m mode A c g x → Owed (Given u)
  way_given g _ _ other (by_type {b = b} {u = u} {t = v}) ku fu x =
      let none = no_values x.chosen x.values in
      let q = subst (λ z. AreEquated c z u v) none (x.equations (related u v) (inl refl)) in
      type_given b u v q ku.1.0.1.0 ku.1.1.0 (let y = fu.1 in let w = y.0 in w.1.0) (let y = fu.1 in y.1.0)
  way_given g _ _ other (by_goals {t = v} {ps = ps} given) ku fu x =
      goals_given v ps x.chosen (no_values x.chosen x.values) ku.1.0 fu.1.0 given
      (λ p i. subst (λ z. IsProvedFromAt m mode (passed (step_kind z misc) A) c x.chosen (record { source = misc; environment = e; predicate = p })) other (x.goals _ (asked_there e ps p i)))

  -- the goal is proved, as it stands or opened
  module _ (o u : Tree) (is : o ≡ unbound u) (closed : IsClosed u) (ko : IsTermOf c o) (kind : statement_kind m.is_coinductive (read u) ≡ other_goal) (given : Owed (Given u)) where
    reads : deeply_resolved c o ≡ unbound (read u)
    reads = goal_read m mode A c s t k e ke env o u is closed ko

    plain_rule : IsPlainRule m mode (λ y. Unit {0}) (IsGranted c) (Hides (sequent_at c e o)) (λ q. Among given.premises q ⊎ nothing q) here (read u)
    plain_rule = inr (subst (λ z. IsBuiltIn m (λ y. Unit {0}) (IsGranted c) (Stands (λ y. Unit {0}) (λ q. Among given.premises q ⊎ nothing q) z) here (read u)) (sym kind) given.holds)

    pub way_plain : IsProvedFrom m mode A c e o
    way_plain =
        let there = terms m mode A c s t k e ke env o u is closed ko in
        let rule : IsRule m mode (λ y. Unit {0}) (IsGranted c) (Hides (sequent_at c e o)) (λ q. Among given.premises q ⊎ nothing q) here (deeply_resolved c o) = inl (read u, reads, plain_rule) in
        let kind_here : goal_kind m (deeply_resolved c o) ≡ other_goal = ap (goal_kind m) reads ∙ kind in
        let served : (q : Premise) → Among given.premises q → IsServedFrom m mode here cs (at_premise m mode here cs A (deeply_resolved c o) q) (Among given.premises) q =
        λ q i. subst (λ z. IsServedFrom m mode here cs (passed (proof_kind z q.source) A) (Among given.premises) q) (sym kind_here) (given.served q i) in
        let all = derive_all_from m mode here cs A (deeply_resolved c o) given.premises given.premises served in
        let f = there.formed in
        record {
          sequent = sequent_at c e o;
          reached = inl (by_rule given.premises there (rule_more (λ q i. ⊎_elim (λ j. inl j) (λ j. absurd j) i) here (deeply_resolved c o) rule) all);
          instance = itself;
          is_instance = record {
            environment = one_itself _ _ _ (instance_of-itself here f.0);
            predicate = one_itself _ _ _ (instance_of-itself (deeply_resolved c o) f.1.0);
            constraints = λ y i. inr (subst (Among cs) (sym (read_itself c s t k y i)) i);
            hidden = λ y i. absurd i;
            open_goals = λ y i. absurd i;
          };
        }

    pub way_binding : (f : Sort → ℕ → Leaf) (v vs w : Tree) → IsTermOf c (bound (more v vs) w) → IsClosed (bound (more v vs) w) → AreFresh (pair (deeply_resolved c e) (deeply_resolved c (bound (more v vs) w))) f → o ≡ unbound (opened f 0 w)
        → goal_kind m (deeply_resolved c (bound (more v vs) w)) ≡ other_goal → IsProvedFrom m mode A c e (bound (more v vs) w)
    way_binding f v vs w kg all fresh same there =
        let ce = read_closed m mode A c s t k e ke env in
        let st : read u ≡ opened f 0 (read w) = ap read (one_statement u (opened f 0 w) (sym is ∙ same)) ∙ statement_reads m mode A c s t k e ke ce v vs w f kg all fresh in
        opened_rule m mode A c s t k e ke ce v vs w f kg all fresh (read u) st given.premises
        (λ q i. subst (λ z. IsServedFrom m mode here cs (passed (proof_kind z q.source) A) (Among given.premises) q) (sym there) (given.served q i)) plain_rule_at
      where
        plain_rule_at : IsPlainRule m mode (λ y. Unit {0}) (IsGranted c) (Hides (sequent_at c e (bound (more v vs) w))) (λ q. Among given.premises q ⊎ nothing q) here (read u)
        plain_rule_at = inr (subst (λ z. IsBuiltIn m (λ y. Unit {0}) (IsGranted c) (Stands (λ y. Unit {0}) (λ q. Among given.premises q ⊎ nothing q) z) here (read u)) (sym kind) given.holds)

-- .. that a table knew before it was opened there
pub own_way_proved : (h : Handler) (V : ℕ → List Variance) (law : JudgementsAreKept h) (mode : Mode) (A : List Assumed) (c : Content) (s : IsSound c) (t : HoldsTerms c) (k : AreConstraintsOf c) (b : Content) (e g : Tree) (ke : IsTermOf c e) (env : IsClosedThere e) → AreCurrent b → Continues b c → IsLevelled c → AreRegionsLevelled c
    → IsTermOf b e → IsTermOf b g → IsTermOf c g → IsTermOf c (opened_in b g) → (binds g ≡ true → IsClosed g) → (x : Candidate) → HasOwnWay h.judges e (opened_in b g) x → HoldsCandidateFrom (meaning h V) mode A c (opened_in b g) x → IsProvedFrom (meaning h V) mode A c e g
own_way_proved h V law mode A c s t k b e (node (label.List list.Binder) (more (node (label.List list.Sorts) (more v vs)) (more w empty))) ke env now later l r te tg kg ko closed x way holds =
    let f = placeholder_in (b.universe + 1) in
    let known : Knows c (unbound way.statement) = subst (Knows c) way.binds_nothing ko.knows in
    let read = instance_of (reading_of c s t) in
    let fresh = fresh_later b c e (bound (more v vs) w) te.knows tg.knows now later l r in
    let ce = read_closed (meaning h V) mode A c s t k e ke env in
    let same : way.statement ≡ opened f 0 w = one_statement way.statement (opened f 0 w) (sym way.binds_nothing) in
    let st : read way.statement ≡ opened f 0 (read w) = ap read same ∙ statement_reads (meaning h V) mode A c s t k e ke ce v vs w f kg (closed refl) fresh in
    let kind_goal : goal_kind (meaning h V) (unbound (opened f 0 w)) ≡ other_goal = ap (statement_kind h.is_coinductive) (sym same) ∙ way_kind h.is_coinductive h.judges e way.statement x way.way in
    let given = way_given h V law mode A c s t k e ke env (unbound (opened f 0 w)) way.statement x kind_goal way.way known.1.1.0 way.formed holds in
    way_binding h V law mode A c s t k e ke env (unbound (opened f 0 w)) way.statement way.binds_nothing way.closed ko (kind_read (reading_of c s t) h.is_coinductive h.judges e way.statement x way.way) given f v vs w kg (closed refl) fresh refl
    (ap (goal_kind (meaning h V)) (sym (instance_of-reading c s t (bound (more v vs) w) kg.knows kg.formed)) ∙ kind_before h.is_coinductive f h.judges e way.statement (read way.statement) (read w) x way.way read (λ n a z. refl) (λ z. refl) refl st)
own_way_proved h V law mode A c s t k b e g ke env now later l r te tg kg ko closed x way holds =
    let known : Knows c (unbound way.statement) = subst (Knows c) way.binds_nothing kg.knows in
    let read = instance_of (reading_of c s t) in
    let kind_goal : goal_kind (meaning h V) g ≡ other_goal = ap (goal_kind (meaning h V)) way.binds_nothing ∙ way_kind h.is_coinductive h.judges e way.statement x way.way in
    let given = way_given h V law mode A c s t k e ke env g way.statement x kind_goal way.way known.1.1.0 way.formed holds in
    way_plain h V law mode A c s t k e ke env g way.statement way.binds_nothing way.closed kg (kind_read (reading_of c s t) h.is_coinductive h.judges e way.statement x way.way) given
