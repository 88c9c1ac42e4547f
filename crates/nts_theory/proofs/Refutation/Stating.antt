-- What a goal of the engine's own kinds states, which is proved in a world of its table, is so there; so its own way can be begun.
use Rattle.std.proofs.Common.{◌≡◌, inl, inr, ℕ, ◌+◌, Bool, true, false, ◌||◌, List, [], ◌∷◌, map, Some, refl, sym, ap, ◌∙◌, subst}
use Rattle.std.specs.Prelude.{◌&&◌, ◌||◌, if◌then◌else◌, ◌⊎◌}
use Rattle.nts_model.specs.declared.labels.FreeRegion.TheVariants as region
use Rattle.nts_model.specs.declared.labels.Leaf.{Leaf}
use Rattle.nts_model.specs.declared.labels.Leaf.TheVariants as leaf
use Rattle.nts_model.specs.declared.labels.BoundVarIndexKind.TheVariants as index
use Rattle.nts_model.specs.declared.labels.Label.{Label}
use Rattle.nts_model.specs.declared.labels.Label.TheVariants as label
use Rattle.nts_model.specs.Terms.Trees.{Tree, empty, more, node, any_label, is_canonical, IsClosed, IsFormed, kind_of, of_sort, is_alias}
use Rattle.nts_model.specs.Tables.Contents.{Content}
use Rattle.nts_model.specs.Tables.Resolving.{Knows}
use Rattle.nts_model.specs.Tables.Levels.{AreCurrent}
use Rattle.nts_model.specs.Tables.Worlds.{World, inst}
use Rattle.nts_model.specs.Terms.Substitutions.{leaf_tree, Occurs, Instance, instance_of, filled}
use Rattle.nts_model.specs.Derivations.Related.{Constraint, pair, unbound}
use Rattle.nts_model.specs.Lists.{Among}
use Rattle.nts_model.specs.Derivations.Sequents.{Premise, misc}
use Rattle.nts_model.specs.Derivations.Rules.{Equation, related, statement_of, opened, KeepsAliases}
use Rattle.nts_model.specs.Derivations.Handlers.{Handler, Candidate, IsLawfulHandler, IsFixed, IsOver, NamesFresh, constraint_by}
use Rattle.nts_model.specs.Refutation.Opening.{binds, placeholder_in, entered_table, opened_in}
use Rattle.nts_model.specs.Refutation.Choosing.{Freshens}
use Rattle.nts_model.specs.Refutation.Containing.{Truth, IsSolution, IsTrueBy, IsPlainWorld}
use Rattle.nts_model.specs.Refutation.Coherence.{RulesAreOffered, IsInstanceIn}
use Rattle.nts_model.specs.Answers.Responses.{read_in}
use Rattle.nts_model.proofs.Tables.Fitting.{IsClosed-inst}
use Rattle.nts_model.proofs.Terms.Unpositioned.{known_no_positions, filled-none}
use Rattle.nts_model.proofs.Canonical.Positioned.{inst-filled}
use Rattle.nts_theory.specs.Affirming.{SaysOfTwo, is_its_type, is_well_formed, plain_way, goals_there, IsOwnWay, by_type, by_goals, HasOwnWay}
use Rattle.nts_theory.specs.Refutation.Refutation.{binding, IsTheory, HasNoAlias, IsGranted, IsGrantedAsIs}
use Rattle.nts_theory.proofs.Derivations.ClosedStatements.{one_statement as same_statement}
use Rattle.nts_theory.proofs.Refutation.OpenedGoals.{inst_opened}
use Rattle.nts_theory.proofs.Refutation.Saying.{said_inst, was_formed}
use Rattle.nts_theory.proofs.Refutation.Freshening.{knows_leaf}
use Rattle.nts_theory.proofs.Refutation.OfferMeeting.{replace_inst}
use Rattle.nts_theory.proofs.Refutation.Offering.{world_instance, world_instance_in}
use Rattle.nts_theory.proofs.Refutation.Choosing.{filled_known}
use Rattle.nts_theory.proofs.Refutation.Trying.{reaches_self}
use Rattle.nts_theory.proofs.Refutation.Opening.{IsBegunAt, CanBegin, begins_whole}
use Rattle.nts_theory.proofs.Refutation.Queried.{entered_solution}
use Rattle.nts_theory.proofs.Refutation.Readying.{IsBinding, binding_shape, names_image, themselves}
use Rattle.nts_theory.specs.RelatingCandidates.{may_be_argument, relates_aliases, HasPlainEquations}
use Rattle.nts_theory.proofs.Refutation.PlainTerms.{free_none, unlabelled_free, either_false, none_inst, none_opened}
use Rattle.nts_model.specs.declared.labels.Sort.TheVariants as sort

-- a term over no variables of a candidate has no positions
names_none : (l : Label) → NamesFresh [] (node l empty) → is_canonical l ≡ false
names_none (label.Bound s index.Canonical n) h = absurd h.0
names_none (label.Bound s (index.Bound d) n) h = refl
names_none (label.Leaf x) h = refl
names_none (label.Ty x) h = refl
names_none (label.Const x) h = refl
names_none (label.Clause x) h = refl
names_none (label.Predicate x) h = refl
names_none (label.List x) h = refl

pub no_positions : (t : Tree) → NamesFresh [] t → any_label is_canonical t ≡ false
no_positions empty h = refl
no_positions (more a b) h = (let x = no_positions a h.0 in let y = no_positions b h.1 in rw (x, y) refl)
no_positions (node l c) h = (let x = names_none l (h.0, tt) in let y = no_positions c h.1 in rw (x, y) refl)

image_among : (f : Tree → Tree) (ps : List Tree) (p : Tree) → Among ps p → Among (map f ps) (f p)
image_among f [] p i = absurd i
image_among f (q ∷ ps) p (inl e) = inl (ap f e)
image_among f (q ∷ ps) p (inr i) = inr (image_among f ps p i)

images_same : (f g : Tree → Tree) (ps : List Tree) → ((p : Tree) → Among ps p → f p ≡ g p) → map f ps ≡ map g ps
images_same f g [] h = refl
images_same f g (p ∷ ps) h = (let x = h p (inl refl) in let y = images_same f g ps (λ q i. h q (inr i)) in cc (x, y))

asked_of : (e : Tree) (ps : List Tree) (q : Premise) → Among (goals_there e ps) q → (p : Tree) × Among ps p × (q ≡ record { source = misc; environment = e; predicate = p })
asked_of e [] q i = absurd i
asked_of e (p ∷ ps) q (inl same) = (p, inl refl, same)
asked_of e (p ∷ ps) q (inr i) = (let r = asked_of e ps q i in (r.0, inr r.1, r.2))

fixed_known : (c : Content) (l : Leaf) → IsFixed l → Knows c (leaf_tree l)
fixed_known c (leaf.Region region.Static) i = ((tt, tt, refl), tt, tt)
fixed_known c (leaf.Region region.Erased) i = ((tt, tt, refl), tt, tt)
fixed_known c (leaf.Region region.Error) i = ((tt, tt, refl), tt, tt)
fixed_known c (leaf.Region (region.Placeholder u n)) i = absurd i
fixed_known c (leaf.Region (region.EarlyParam n)) i = absurd i
fixed_known c (leaf.Region (region.LateParam n)) i = absurd i
fixed_known c (leaf.Variable k n) i = absurd i
fixed_known c (leaf.TyConstant a) i = absurd i
fixed_known c (leaf.ConstConstant a) i = absurd i

-- an equation that is left alone as no alias stands in it
none_of_one : (b : Bool) (q : Equation) → (if b then q ∷ [] else []) ≡ [] → b ≡ false
none_of_one false q e = refl
none_of_one true q e = cc e

no_alias_of : (u t : Tree) → kind_of t ≡ Some (of_sort sort.Ty) → relates_aliases (related u t) ≡ false → HasNoAlias u × HasNoAlias t
no_alias_of u t k e =
    let both : (any_label is_alias u || any_label is_alias t) ≡ false = subst (λ z. (may_be_argument z && (any_label is_alias u || any_label is_alias t)) ≡ false) k e in
    let x = either_false (any_label is_alias u) (any_label is_alias t) both in
    (free_none u (unlabelled_free u x.0), free_none t (unlabelled_free t x.1))

module _ (h : Handler) (truth : Truth) (Proves : Tree → Tree → Type 0) (theory : IsTheory h truth Proves) (lawful : IsLawfulHandler h) (law : RulesAreOffered h) (c : Content) (e g : Tree) (w : World) (s : IsSolution truth 0 c w) (current : AreCurrent c) (known : Knows c (pair e g))
    (free : IsPlainWorld c w) (granted : IsGrantedAsIs Proves (inst w e) (inst w g)) where
  -- what a goal that binds nothing states, and one that binds variables
  said_plain : (st : Tree) → g ≡ unbound st → (x : Constraint) → SaysOfTwo x st → IsClosed st → HasNoAlias st → IsTrueBy truth x.relation (inst w x.left) (inst w x.right)
  said_plain st is x says closed none =
      let fitting = (let z = s.solves in z.fitting) in
      let there : Knows c (unbound st) = subst (Knows c) is known.1.0 in
      let p : IsGrantedAsIs Proves (inst w e) (unbound (inst w st)) = subst (λ z. IsGrantedAsIs Proves (inst w e) (inst w z)) is granted in
      let n = none_inst c w free st there.1.1.0 none in
      theory.says (inst w e) (inst w st) (constraint_by (inst w) x) (p.proved (inl n)) (said_inst w x st says) (IsClosed-inst c w 0 st fitting there.1.1.0 closed) n

  image_opened : (b : IsBinding g) (st : Tree) → unbound (opened (placeholder_in (c.universe + 1)) 0 (statement_of g)) ≡ unbound st → inst w st ≡ opened (placeholder_in (c.universe + 1)) 0 (inst w b.says)
  image_opened b st is =
      let p = placeholder_in (c.universe + 1) in
      let t = b.says in
      let now : Knows c (binding b.first b.rest t) = subst (Knows c) b.is known.1.0 in
      let kt : Knows c t = now.1.1.0 in
      let fitting = (let z = s.solves in z.fitting) in
      let says : st ≡ opened p 0 t = sym (same_statement (opened p 0 (statement_of g)) st is) ∙ ap (λ z. opened p 0 (statement_of z)) b.is in
      ap (inst w) says ∙ inst_opened c w fitting p (themselves h truth Proves theory lawful law c w s) 0 t kt

  said_binding : (b : IsBinding g) (st : Tree) → unbound (opened (placeholder_in (c.universe + 1)) 0 (statement_of g)) ≡ unbound st → (x : Constraint) → SaysOfTwo x st → HasNoAlias st → IsTrueBy truth x.relation (inst w x.left) (inst w x.right)
  said_binding b st is x says none =
      let now : Knows c (binding b.first b.rest b.says) = subst (Knows c) b.is known.1.0 in
      let p = placeholder_in (c.universe + 1) in
      let opens : st ≡ opened p 0 b.says = sym (same_statement (opened p 0 (statement_of g)) st is) ∙ ap (λ z. opened p 0 (statement_of z)) b.is in
      let n = none_inst c w free b.says now.1.1.0 (none_opened p 0 b.says (subst HasNoAlias opens none)) in
      let here : IsGrantedAsIs Proves (inst w e) (binding (inst w b.first) (inst w b.rest) (inst w b.says)) = subst (λ z. IsGrantedAsIs Proves (inst w e) (inst w z)) b.is granted in
      theory.says_opened c.universe (inst w e) (inst w b.first) (inst w b.rest) (inst w b.says) (constraint_by (inst w) x) (here.proved (inl n))
      (subst (SaysOfTwo (constraint_by (inst w) x)) (image_opened b st is) (said_inst w x st says)) (names_image truth 0 c w s current e known.0, (names_image truth 0 c w s current b.says now.1.1.0, tt)) n

  -- so of two terms it says what is so
  pub said_there : (st : Tree) → opened_in c g ≡ unbound st → (x : Constraint) → SaysOfTwo x st → IsClosed st → HasNoAlias st → IsTrueBy truth x.relation (inst w x.left) (inst w x.right)
  said_there st is x says closed none = by_bool (binds g) refl
    where
      by_bool : (b : Bool) → binds g ≡ b → IsTrueBy truth x.relation (inst w x.left) (inst w x.right)
      by_bool false q = (let o : opened_in c g ≡ g = rw q refl in said_plain st (sym o ∙ is) x says closed none)
      by_bool true q = (let o : opened_in c g ≡ unbound (opened (placeholder_in (c.universe + 1)) 0 (statement_of g)) = rw q refl in said_binding (binding_shape g q) st (sym o ∙ is) x says none)

  abbrev there : Content
  there = entered_table c g

  solved : IsSolution truth 0 there w
  solved = entered_solution truth c g w s

  -- and a term that it says is well formed is so by proved predicates
  module _ (st t : Tree) (ps : List Tree) (is : opened_in c g ≡ unbound st) (says : st ≡ is_well_formed t) (formed_env : IsFormed e) (formed : IsFormed st) (closed : IsClosed st) (knows : Knows there (pair e (opened_in c g)))
      (given : (let j = h.judges in j.well_formed e t ≡ Some ps)) where
    formed_pair : IsFormed (pair e t)
    formed_pair = (let f : IsFormed (is_well_formed t) = subst IsFormed says formed in (formed_env, (f.1.0, tt)))

    knows_pair : Knows there (pair e t)
    knows_pair =
        let o : Knows there (unbound st) = subst (Knows there) is knows.1.0 in
        let k : Knows there (is_well_formed t) = subst (Knows there) says o.1.1.0 in
        (knows.0, (k.1.0, tt))

    over : (p : Tree) → Among ps p → IsOver [] e t p
    over p i = (let j = lawful.judges in (j.goals e t ps p formed_pair given i).0)

    abbrev reading : Instance
    reading = world_instance there w (let z = solved.solves in z.fitting) solved.fixed (pair e t) formed_pair knows_pair

    reads : IsInstanceIn w (pair e t) reading
    reads = world_instance_in there w (let z = solved.solves in z.fitting) solved.fixed (pair e t) formed_pair knows_pair

    fixed_same : (l : Leaf) → IsFixed l → reading.value l ≡ inst w (leaf_tree l)
    fixed_same (leaf.Region region.Static) i = (let f = solved.fixed in reading.stays region.Static tt ∙ sym (ap (λ z. leaf_tree (leaf.Region z)) f.static))
    fixed_same (leaf.Region region.Erased) i = (let f = solved.fixed in reading.stays region.Erased tt ∙ sym (ap (λ z. leaf_tree (leaf.Region z)) f.erased))
    fixed_same (leaf.Region region.Error) i = (let f = solved.fixed in reading.stays region.Error tt ∙ sym (ap (λ z. leaf_tree (leaf.Region z)) f.error))
    fixed_same (leaf.Region (region.Placeholder u n)) i = absurd i
    fixed_same (leaf.Region (region.EarlyParam n)) i = absurd i
    fixed_same (leaf.Region (region.LateParam n)) i = absurd i
    fixed_same (leaf.Variable k n) i = absurd i
    fixed_same (leaf.TyConstant a) i = absurd i
    fixed_same (leaf.ConstConstant a) i = absurd i

    leaf_same : (l : Leaf) → Occurs l (pair e t) ⊎ IsFixed l → reading.value l ≡ inst w (leaf_tree l)
    leaf_same l (inl i) = reads l i
    leaf_same l (inr i) = fixed_same l i

    seen_same : (p : Tree) → Among ps p → instance_of reading p ≡ inst w p
    seen_same p i = (let o = over p i in replace_inst w reading.value p o.formed (λ l j. leaf_same l (o.leaves l j)))

    given_there : (let j = h.judges in j.well_formed (inst w e) (inst w t) ≡ Some (map (inst w) ps))
    given_there =
        let j = h.judges in
        let law' = lawful.judges in
        let known_all = law'.well_formed e t ps reading formed_pair given in
        let env : instance_of reading e ≡ inst w e = replace_inst w reading.value e formed_pair.0 (λ l i. reads l (inl i)) in
        let term : instance_of reading t ≡ inst w t = replace_inst w reading.value t formed_pair.1.0 (λ l i. reads l (inr (inl i))) in
        subst (λ z. j.well_formed z (inst w t) ≡ Some (map (inst w) ps)) env (subst (λ z. j.well_formed (instance_of reading e) z ≡ Some (map (inst w) ps)) term
        (known_all ∙ ap Some (images_same (instance_of reading) (inst w) ps seen_same)))

    proved_plain : (p : Tree) → Among ps p → g ≡ unbound st → IsGranted Proves (inst w e) (inst w p)
    proved_plain p i same =
        let fitting = (let z = s.solves in z.fitting) in
        let now : Knows c (unbound st) = subst (Knows c) same known.1.0 in
        let q : IsGrantedAsIs Proves (inst w e) (unbound (inst w st)) = subst (λ z. IsGrantedAsIs Proves (inst w e) (inst w z)) same granted in
        theory.formed (inst w e) (inst w st) (q.proved (inr (subst (λ z. KeepsAliases (inst w z)) (sym says) tt))) (IsClosed-inst c w 0 st fitting now.1.1.0 closed) (inst w t) (map (inst w) ps) (ap (inst w) says) given_there (inst w p) (image_among (inst w) ps p i)

    proved_binding : (p : Tree) → Among ps p → (b : IsBinding g) → unbound (opened (placeholder_in (c.universe + 1)) 0 (statement_of g)) ≡ unbound st → IsGranted Proves (inst w e) (inst w p)
    proved_binding p i b same =
        let now : Knows c (binding b.first b.rest b.says) = subst (Knows c) b.is known.1.0 in
        let fresh = placeholder_in (c.universe + 1) in
        let opens : opened fresh 0 b.says ≡ is_well_formed t = sym (sym (same_statement (opened fresh 0 (statement_of g)) st same) ∙ ap (λ z. opened fresh 0 (statement_of z)) b.is) ∙ says in
        let was = was_formed fresh b.says t opens in
        let here : IsGrantedAsIs Proves (inst w e) (binding (inst w b.first) (inst w b.rest) (inst w b.says)) = subst (λ z. IsGrantedAsIs Proves (inst w e) (inst w z)) b.is granted in
        theory.formed_opened c.universe (inst w e) (inst w b.first) (inst w b.rest) (inst w b.says) (here.proved (inr (subst (λ z. KeepsAliases (inst w z)) (sym was.is) tt)))
        (names_image truth 0 c w s current e known.0, (names_image truth 0 c w s current b.says now.1.1.0, tt)) (inst w t) (map (inst w) ps) (sym (image_opened b st same) ∙ ap (inst w) says) given_there (inst w p) (image_among (inst w) ps p i)

    pub each_proved : (p : Tree) → Among ps p → IsGranted Proves (inst w e) (inst w p)
    each_proved p i = by_bool (binds g) refl
      where
        by_bool : (b : Bool) → binds g ≡ b → IsGranted Proves (inst w e) (inst w p)
        by_bool false q = (let o : opened_in c g ≡ g = rw q refl in proved_plain p i (sym o ∙ is))
        by_bool true q = (let o : opened_in c g ≡ unbound (opened (placeholder_in (c.universe + 1)) 0 (statement_of g)) = rw q refl in proved_binding p i (binding_shape g q) (sym o ∙ is))

    pub each_known : (p : Tree) → Among ps p → Knows there (filled [] p)
    each_known p i =
        let o = over p i in
        filled_known there [] p o.well_bound tt (λ n. (tt, tt)) (λ l j. elim (o.leaves l j) [ inl k ↦ knows_leaf there l (pair e t) k knows_pair | inr k ↦ fixed_known there l k ])

    pub none_filled : (p : Tree) → Among ps p → filled [] p ≡ p
    none_filled p i = (let o = over p i in filled-none [] p (no_positions p o.names))

  -- the way can be begun
  read_plain : (u : Tree) → Knows there u → IsFormed u → read_in w [] u ≡ inst w u
  read_plain u k f = sym (inst-filled w [] u f) ∙ ap (inst w) (filled-none [] u (known_no_positions there u k))

  filled_plain : (u : Tree) → Knows there u → filled [] u ≡ u
  filled_plain u k = filled-none [] u (known_no_positions there u k)

  type_begins : (b : ℕ) (u t : Tree) → Knows there e → HasPlainEquations (plain_way (related u t ∷ []) []) → Knows there u → Knows there t → IsFormed u → IsFormed t → inst w u ≡ inst w t → CanBegin truth (IsGranted Proves) there w e (plain_way (related u t ∷ []) [])
  type_begins b u t ke plain ku kt fu ft same =
      begins_whole truth (IsGranted Proves) there w e (plain_way (related u t ∷ []) []) ke plain
      (record { world = w; solves = solved.solves; values = []; fit = tt; named = tt; equal = λ q i. elim i [ inl x ↦ rw x (read_plain u ku fu ∙ same ∙ sym (read_plain t kt ft)) | inr x ↦ absurd x ] })
      by_values
    where
      begun : (d : Content) → d ≡ there → IsBegunAt truth (IsGranted Proves) there d w [] (plain_way (related u t ∷ []) [])
      begun d x =
          rw x (record {
            reaches = reaches_self truth 0 there w solved;
            meets = record {
              equal = record { each = λ q i. elim i [ inl z ↦ rw z (ap (inst w) (filled_plain u ku) ∙ same ∙ sym (ap (inst w) (filled_plain t kt))) | inr z ↦ absurd z ] };
              met = λ y i. absurd i;
              goals = λ q i. absurd i;
            };
            known = record {
              equations = record {
                left = λ q i. elim i [ inl z ↦ rw z (subst (Knows there) (sym (filled_plain u ku)) ku) | inr z ↦ absurd z ];
                right = λ q i. elim i [ inl z ↦ rw z (subst (Knows there) (sym (filled_plain t kt)) kt) | inr z ↦ absurd z ];
              };
              left = λ y i. absurd i;
              right = λ y i. absurd i;
              environments = λ q i. absurd i;
              predicates = λ q i. absurd i;
            };
          })

      by_values : (xs : List Tree) (d : Content) → Freshens there.universe [] xs there d → IsBegunAt truth (IsGranted Proves) there d w xs (plain_way (related u t ∷ []) [])
      by_values [] d x = begun d x
      by_values (y ∷ xs) d x = absurd x

  goals_begin : (ps : List Tree) → Knows there e → ((p : Tree) → Among ps p → IsGranted Proves (inst w e) (inst w p)) → ((p : Tree) → Among ps p → Knows there (filled [] p)) → ((p : Tree) → Among ps p → filled [] p ≡ p) → CanBegin truth (IsGranted Proves) there w e (plain_way [] (goals_there e ps))
  goals_begin ps ke each kp none =
      begins_whole truth (IsGranted Proves) there w e (plain_way [] (goals_there e ps)) ke refl (record { world = w; solves = solved.solves; values = []; fit = tt; named = tt; equal = λ q i. absurd i }) by_values
    where
      begun : (d : Content) → d ≡ there → IsBegunAt truth (IsGranted Proves) there d w [] (plain_way [] (goals_there e ps))
      begun d x =
          rw x (record {
            reaches = reaches_self truth 0 there w solved;
            meets = record {
              equal = record { each = λ q i. absurd i };
              met = λ y i. absurd i;
              goals = λ q i. (let a = asked_of e ps q i in let env = filled_plain e ke in let pred = none a.0 a.1 in rw a.2 (rw (env, pred) (each a.0 a.1)));
            };
            known = record {
              equations = record { left = λ q i. absurd i; right = λ q i. absurd i };
              left = λ y i. absurd i;
              right = λ y i. absurd i;
              environments = λ q i. (let a = asked_of e ps q i in rw a.2 (subst (Knows there) (sym (filled_plain e ke)) ke));
              predicates = λ q i. (let a = asked_of e ps q i in rw a.2 (kp a.0 a.1));
            };
          })

      by_values : (xs : List Tree) (d : Content) → Freshens there.universe [] xs there d → IsBegunAt truth (IsGranted Proves) there d w xs (plain_way [] (goals_there e ps))
      by_values [] d x = begun d x
      by_values (y ∷ xs) d x = absurd x

  by_way : (st : Tree) (x : Candidate) → opened_in c g ≡ unbound st → IsOwnWay h.judges e st x → HasPlainEquations x → IsFormed e → IsFormed st → IsClosed st → Knows there (pair e (opened_in c g)) → CanBegin truth (IsGranted Proves) there w e x
  by_way st x is (by_type {b = b} {u = u} {t = t}) plain fe f z k =
      let o : Knows there (unbound st) = subst (Knows there) is k.1.0 in
      let ks = o.1.1.0 in
      let fu = (let y = f.1 in let v = y.0 in v.1.0) in
      let ft = (let y = f.1 in y.1.0) in
      let kind : kind_of t ≡ Some (of_sort sort.Ty) = f.0.1.0 in
      let none = no_alias_of u t kind (none_of_one (relates_aliases (related u t)) (related u t) plain) in
      type_begins b u t k.0 plain ks.1.0.1.0 ks.1.1.0 fu ft (said_there st is _ is_its_type z (refl, ((refl, (none.0, tt)), (none.1, tt))))
  by_way st x is (by_goals {t = t} {ps = ps} given) plain fe f z k =
      goals_begin ps k.0 (each_proved st t ps is refl fe f z k given) (each_known st t ps is refl fe f z k given) (none_filled st t ps is refl fe f z k given)

  pub own_begins : (x : Candidate) → HasOwnWay h.judges e (opened_in c g) x → HasPlainEquations x → IsFormed e → Knows there (pair e (opened_in c g)) → CanBegin truth (IsGranted Proves) there w e x
  own_begins x o plain fe k = by_way o.statement x o.binds_nothing o.way plain fe o.formed o.closed k
