-- What decides a goal decides each goal that is a plain renaming of it, by as many goals.
use Rattle.std.proofs.Common.{◌≡◌, inl, inr, ℕ, true, false, List, [], ◌∷◌, map, refl, sym, ap, subst, ◌∙◌}
use Rattle.std.specs.Prelude.{Bool, ◌⊎◌}
use Rattle.nts_model.specs.declared.labels.Sort.{Sort}
use Rattle.nts_model.specs.declared.labels.Sort.TheVariants as sort
use Rattle.nts_model.specs.declared.labels.VariableKind.{VariableKind}
use Rattle.nts_model.specs.declared.labels.VariableKind.TheVariants as kind
use Rattle.nts_model.specs.declared.labels.FreeRegion.TheVariants as region
use Rattle.nts_model.specs.declared.labels.Leaf.{Leaf}
use Rattle.nts_model.specs.declared.labels.Leaf.TheVariants as leaf
use Rattle.nts_model.specs.declared.labels.BoundVarIndexKind.TheVariants as index
use Rattle.nts_model.specs.declared.labels.ClauseHead.TheVariants as clause
use Rattle.nts_model.specs.declared.labels.AliasHead.TheVariants as alias_of
use Rattle.nts_model.specs.declared.labels.PredicateHead.TheVariants as predicate
use Rattle.nts_model.specs.declared.labels.Label.{Label}
use Rattle.nts_model.specs.declared.labels.Label.TheVariants as label
use Rattle.nts_model.specs.Terms.Trees.{Tree, empty, more, node, any_label, is_infer, is_alias, is_canonical, IsFormed}
use Rattle.nts_model.specs.Terms.Regions.{of_variable, of_free}
use Rattle.nts_model.specs.Terms.Fitting.{Fits}
use Rattle.nts_model.specs.Terms.Substitutions.{leaf_tree, put, replace, FitsLeaf, Instance, LeafSort, of_variable as sort_of_variable, of_constant, leaf_sort, Renaming, rename, IsPlain, filled, filled_under, position_of, value_or}
use Rattle.nts_model.specs.Derivations.Related.{pair, unbound, alias}
use Rattle.nts_model.specs.Lists.{Among}
use Rattle.nts_model.specs.Derivations.Sequents.{Premise}
use Rattle.nts_model.specs.Derivations.Rules.{Mode, Equation, related, alike, IsHandlers}
use Rattle.nts_model.specs.Derivations.Handlers.{Handler, Candidate, equation_by, premise_by, AreValuesOf, kind_of_sort, renamed_candidate, IsAsked, JudgementsAreKept, IsLawfulHandler}
use Rattle.nts_model.specs.Refutation.Choosing.{left_of, right_of}
use Rattle.nts_decisions.specs.Deciding.{blurred_leaf, blurred_but_static, blurred, blurred_environment, blurred_premise, blurred_candidate, MeetsBlurred, FixesGoals, IsDecidable, SaysOfRegion, IsPlainGoal, IsRegionGoal, IsJudged, IsJudgedGoal, IsFormedCandidate, IsUniform, opened_next, IsDecided, by_candidates, by_region, by_judgement, OneHolds, none_left, then_fails, then_holds, CandidateIs, is_unmet, is_met, GoalsAre, all_yes, one_yes, one_no, by_own_way, HasWayAs, IsOwnWayGoal}
use Rattle.nts_theory.specs.Affirming.{evaluatable, IsAffirmed, feature_allowed, has_objects, named_const, value_const, error_const, error_type, evaluated_const, by_type, by_goals, plain_way, goals_there, is_well_formed, IsOwnWay}
use Rattle.nts_model.proofs.Terms.Substituting.{replace-replace, replace-equal, replace-leaf, leaf_alone}
use Rattle.nts_model.proofs.Terms.Composing.{IsFormed-instance, IsClosed-instance, Fits-instance, leaf_tree-inj as one_leaf}
use Rattle.nts_theory.proofs.Derivations.ClosedStatements.{closed_statements_instance}
use Rattle.nts_model.proofs.Terms.Scoping.{leaf_patch, replace_patched, well_bound_patched}
use Rattle.nts_model.proofs.Canonical.Positioned.{replace-filled}
use Rattle.nts_model.proofs.Terms.Renamings.{renaming-injective}

-- a plain renaming as an instance
fits_renamed : (k : VariableKind) (x : Leaf) → leaf_sort x ≡ sort_of_variable k → Fits k (leaf_tree x)
fits_renamed kind.Ty (leaf.Variable kind.Ty n) e = refl
fits_renamed kind.Int (leaf.Variable kind.Int n) e = refl
fits_renamed kind.Float (leaf.Variable kind.Float n) e = refl
fits_renamed kind.Const (leaf.Variable kind.Const n) e = refl
fits_renamed kind.Region (leaf.Variable kind.Region n) e = (of_variable n, refl)
fits_renamed kind.Region (leaf.Region r) e = (of_free r, refl)
fits_renamed k x e = absurd (cc e)

pub fits_leaf : (ρ : Renaming) (l : Leaf) → FitsLeaf l (leaf_tree (ρ.to l))
fits_leaf ρ (leaf.Variable k n) = fits_renamed k (ρ.to (leaf.Variable k n)) (ρ.keeps_sorts (leaf.Variable k n))
fits_leaf ρ (leaf.Region r) = fits_renamed kind.Region (ρ.to (leaf.Region r)) (ρ.keeps_sorts (leaf.Region r))
fits_leaf ρ (leaf.TyConstant a) = of_type (ρ.to (leaf.TyConstant a)) (ρ.keeps_sorts (leaf.TyConstant a))
  where
    of_type : (x : Leaf) → leaf_sort x ≡ of_constant sort.Ty → FitsLeaf (leaf.TyConstant a) (leaf_tree x)
    of_type (leaf.TyConstant b) e = (b, refl)
    of_type x e = absurd (cc e)
fits_leaf ρ (leaf.ConstConstant a) = of_const (ρ.to (leaf.ConstConstant a)) (ρ.keeps_sorts (leaf.ConstConstant a))
  where
    of_const : (x : Leaf) → leaf_sort x ≡ of_constant sort.Const → FitsLeaf (leaf.ConstConstant a) (leaf_tree x)
    of_const (leaf.ConstConstant b) e = (b, refl)
    of_const x e = absurd (cc e)

abbrev pub by_renaming : (ρ : Renaming) → IsPlain ρ → Instance
by_renaming ρ p =
    record {
      value = λ l. leaf_tree (ρ.to l);
      fits = fits_leaf ρ;
      formed = λ l. (tt, tt);
      closed = λ l. (tt, tt);
      distinct = λ l m h i e. (let j = renaming-injective ρ in j.tells l m (one_leaf (ρ.to l) (ρ.to m) e));
      stays = λ r h. ap leaf_tree (p r h);
    }

-- back again
abbrev pub inverse : Renaming → Renaming
inverse ρ =
    record {
      to = ρ.from;
      from = ρ.to;
      back = ρ.forth;
      forth = ρ.back;
      keeps_sorts = λ l. sym (ρ.keeps_sorts (ρ.from l)) ∙ ap leaf_sort (ρ.forth l);
    }

pub inverse_plain : (ρ : Renaming) → IsPlain ρ → IsPlain (inverse ρ)
inverse_plain ρ p r h = ap ρ.from (sym (p r h)) ∙ ρ.back (leaf.Region r)

pub rename_back : (ρ : Renaming) (t : Tree) → IsFormed t → rename (inverse ρ) (rename ρ t) ≡ t
rename_back ρ t f = replace-replace (λ l. leaf_tree (ρ.from l)) (λ l. leaf_tree (ρ.to l)) t ∙ replace-equal (λ l. leaf_tree (ρ.from (ρ.to l))) leaf_tree (λ l. ap leaf_tree (ρ.back l)) t ∙ replace-leaf t f

pub rename_forth : (ρ : Renaming) (t : Tree) → IsFormed t → rename ρ (rename (inverse ρ) t) ≡ t
rename_forth ρ t f = replace-replace (λ l. leaf_tree (ρ.to l)) (λ l. leaf_tree (ρ.from l)) t ∙ replace-equal (λ l. leaf_tree (ρ.to (ρ.from l))) leaf_tree (λ l. ap leaf_tree (ρ.forth l)) t ∙ replace-leaf t f

-- a leaf of regions is blurred, and another one stays
pub region_blurred : (x : Leaf) → leaf_sort x ≡ sort_of_variable kind.Region → blurred_leaf x ≡ leaf_tree (leaf.Region region.Erased)
region_blurred (leaf.Variable kind.Region n) e = refl
region_blurred (leaf.Region r) e = refl
region_blurred x e = absurd (cc e)

pub other_blurred : (x : Leaf) → (leaf_sort x ≡ sort_of_variable kind.Region → ⊥) → blurred_leaf x ≡ leaf_tree x
other_blurred (leaf.Variable kind.Region n) e = absurd (e refl)
other_blurred (leaf.Region r) e = absurd (e refl)
other_blurred (leaf.Variable kind.Ty n) e = refl
other_blurred (leaf.Variable kind.Int n) e = refl
other_blurred (leaf.Variable kind.Float n) e = refl
other_blurred (leaf.Variable kind.Const n) e = refl
other_blurred (leaf.TyConstant a) e = refl
other_blurred (leaf.ConstConstant a) e = refl

pub is_region_leaf : (x : Leaf) → (leaf_sort x ≡ sort_of_variable kind.Region) ⊎ (leaf_sort x ≡ sort_of_variable kind.Region → ⊥)
is_region_leaf (leaf.Variable kind.Region n) = inl refl
is_region_leaf (leaf.Region r) = inl refl
is_region_leaf (leaf.Variable kind.Ty n) = inr (λ e. cc e)
is_region_leaf (leaf.Variable kind.Int n) = inr (λ e. cc e)
is_region_leaf (leaf.Variable kind.Float n) = inr (λ e. cc e)
is_region_leaf (leaf.Variable kind.Const n) = inr (λ e. cc e)
is_region_leaf (leaf.TyConstant a) = inr (λ e. cc e)
is_region_leaf (leaf.ConstConstant a) = inr (λ e. cc e)

blurred_leaf_renamed : (ρ : Renaming) → IsPlain ρ → (l : Leaf) → blurred_leaf (ρ.to l) ≡ rename ρ (blurred_leaf l)
blurred_leaf_renamed ρ p l = go (is_region_leaf l)
  where
    go : (leaf_sort l ≡ sort_of_variable kind.Region) ⊎ (leaf_sort l ≡ sort_of_variable kind.Region → ⊥) → blurred_leaf (ρ.to l) ≡ rename ρ (blurred_leaf l)
    go (inl e) = region_blurred (ρ.to l) (ρ.keeps_sorts l ∙ e) ∙ sym (ap leaf_tree (p region.Erased tt)) ∙ ap (rename ρ) (sym (region_blurred l e))
    go (inr e) = other_blurred (ρ.to l) (λ q. e (sym (ρ.keeps_sorts l) ∙ q)) ∙ ap (rename ρ) (sym (other_blurred l e))

pub blurred_renamed : (ρ : Renaming) → IsPlain ρ → (t : Tree) → blurred (rename ρ t) ≡ rename ρ (blurred t)
blurred_renamed ρ p t =
    replace-replace blurred_leaf (λ l. leaf_tree (ρ.to l)) t
    ∙ replace-equal (λ l. blurred_leaf (ρ.to l)) (λ l. rename ρ (blurred_leaf l)) (blurred_leaf_renamed ρ p) t
    ∙ sym (replace-replace (λ l. leaf_tree (ρ.to l)) blurred_leaf t)

-- .. in an environment
is_static_leaf : (x : Leaf) → (x ≡ leaf.Region region.Static) ⊎ (blurred_but_static x ≡ blurred_leaf x)
is_static_leaf (leaf.Region region.Static) = inl refl
is_static_leaf (leaf.Region (region.EarlyParam n)) = inr refl
is_static_leaf (leaf.Region (region.LateParam n)) = inr refl
is_static_leaf (leaf.Region (region.Placeholder u n)) = inr refl
is_static_leaf (leaf.Region region.Erased) = inr refl
is_static_leaf (leaf.Region region.Error) = inr refl
is_static_leaf (leaf.Variable k n) = inr refl
is_static_leaf (leaf.TyConstant a) = inr refl
is_static_leaf (leaf.ConstConstant a) = inr refl

static_leaf_renamed : (ρ : Renaming) → IsPlain ρ → (l : Leaf) → blurred_but_static (ρ.to l) ≡ rename ρ (blurred_but_static l)
static_leaf_renamed ρ p l = go (is_static_leaf l) (is_static_leaf (ρ.to l))
  where
    kept : ρ.to (leaf.Region region.Static) ≡ leaf.Region region.Static
    kept = p region.Static tt

    at_static : l ≡ leaf.Region region.Static → blurred_but_static (ρ.to l) ≡ rename ρ (blurred_but_static l)
    at_static e = ap (λ z. blurred_but_static (ρ.to z)) e ∙ ap blurred_but_static kept ∙ sym (ap leaf_tree kept) ∙ ap (λ z. rename ρ (blurred_but_static z)) (sym e)

    go : (l ≡ leaf.Region region.Static) ⊎ (blurred_but_static l ≡ blurred_leaf l) → (ρ.to l ≡ leaf.Region region.Static) ⊎ (blurred_but_static (ρ.to l) ≡ blurred_leaf (ρ.to l))
        → blurred_but_static (ρ.to l) ≡ rename ρ (blurred_but_static l)
    go (inl e) o = at_static e
    go (inr e) (inl f) = at_static (let j = renaming-injective ρ in j.tells l (leaf.Region region.Static) (f ∙ sym kept))
    go (inr e) (inr f) = f ∙ blurred_leaf_renamed ρ p l ∙ ap (rename ρ) (sym e)

pub environment_renamed : (ρ : Renaming) → IsPlain ρ → (t : Tree) → blurred_environment (rename ρ t) ≡ rename ρ (blurred_environment t)
environment_renamed ρ p t =
    replace-replace blurred_but_static (λ l. leaf_tree (ρ.to l)) t
    ∙ replace-equal (λ l. blurred_but_static (ρ.to l)) (λ l. rename ρ (blurred_but_static l)) (static_leaf_renamed ρ p) t
    ∙ sym (replace-replace (λ l. leaf_tree (ρ.to l)) blurred_but_static t)

-- tests of labels
label_renamed : (t : Label → Bool) (f : Leaf → Leaf) → ((l : Leaf) → t (label.Leaf (f l)) ≡ t (label.Leaf l)) → (l : Label) (c d : Tree) → IsFormed (node l c) → any_label t d ≡ any_label t c
    → any_label t (put (λ x. leaf_tree (f x)) l d) ≡ any_label t (node l c)
label_renamed t f h (label.Leaf x) c d k e = rw (leaf_alone x c k, h x) refl
label_renamed t f h (label.Bound a b n) c d k e = rw e refl
label_renamed t f h (label.Ty x) c d k e = rw e refl
label_renamed t f h (label.Const x) c d k e = rw e refl
label_renamed t f h (label.Clause x) c d k e = rw e refl
label_renamed t f h (label.Predicate x) c d k e = rw e refl
label_renamed t f h (label.List x) c d k e = rw e refl

pub labels_renamed : (t : Label → Bool) (f : Leaf → Leaf) → ((l : Leaf) → t (label.Leaf (f l)) ≡ t (label.Leaf l)) → (u : Tree) → IsFormed u → any_label t (replace (λ x. leaf_tree (f x)) u) ≡ any_label t u
labels_renamed t f h empty k = refl
labels_renamed t f h (more a b) k = rw (labels_renamed t f h a k.0, labels_renamed t f h b k.1) refl
labels_renamed t f h (node l c) k = label_renamed t f h l c (replace (λ x. leaf_tree (f x)) c) k (labels_renamed t f h c k.1)

abbrev infer_kind : VariableKind → Bool
infer_kind kind.Region = false
infer_kind k = true

abbrev infer_sort : LeafSort → Bool
infer_sort (sort_of_variable k) = infer_kind k
infer_sort (of_constant s) = false

infer_by_sort : (x : Leaf) → is_infer (label.Leaf x) ≡ infer_sort (leaf_sort x)
infer_by_sort (leaf.Variable kind.Ty n) = refl
infer_by_sort (leaf.Variable kind.Int n) = refl
infer_by_sort (leaf.Variable kind.Float n) = refl
infer_by_sort (leaf.Variable kind.Const n) = refl
infer_by_sort (leaf.Variable kind.Region n) = refl
infer_by_sort (leaf.Region r) = refl
infer_by_sort (leaf.TyConstant a) = refl
infer_by_sort (leaf.ConstConstant a) = refl

infer_kept : (ρ : Renaming) (l : Leaf) → is_infer (label.Leaf (ρ.to l)) ≡ is_infer (label.Leaf l)
infer_kept ρ l = infer_by_sort (ρ.to l) ∙ ap infer_sort (ρ.keeps_sorts l) ∙ sym (infer_by_sort l)

-- a goal of a handler
handlers_clause : (f : Leaf → Tree) (l : Label) (c d : Tree) → IsHandlers (node l c) → IsHandlers (put f l d)
handlers_clause f (label.Clause (clause.Trait i)) c d h = tt
handlers_clause f (label.Clause (clause.HostEffect i)) c d h = tt
handlers_clause f (label.Clause (clause.Projection i)) c d h = tt
handlers_clause f (label.Predicate (predicate.NormalizesTo i)) c d h = tt
handlers_clause f l c d h = absurd h

handlers_renamed : (f : Leaf → Tree) (t : Tree) → IsHandlers t → IsHandlers (replace f t)
handlers_renamed f (node l c) h = handlers_clause f l c (replace f c) h
handlers_renamed f t h = absurd h

decidable_clause : (f : Leaf → Tree) (l : Label) (c d : Tree) → IsDecidable (node l c) → IsDecidable (put f l d)
decidable_clause f (label.Clause (clause.Trait i)) c d h = tt
decidable_clause f (label.Clause (clause.HostEffect i)) c d h = tt
decidable_clause f l c d h = absurd h

decidable_renamed : (f : Leaf → Tree) (t : Tree) → IsDecidable t → IsDecidable (replace f t)
decidable_renamed f (node l c) h = decidable_clause f l c (replace f c) h
decidable_renamed f t h = absurd h

pub asked_renamed : (ρ : Renaming) → IsPlain ρ → (e g : Tree) → IsAsked e g → IsAsked (rename ρ e) (rename ρ g)
asked_renamed ρ p e g a =
    record {
      statement = rename ρ a.statement;
      binds_nothing = ap (rename ρ) a.binds_nothing;
      handlers = handlers_renamed (λ l. leaf_tree (ρ.to l)) a.statement a.handlers;
      formed = IsFormed-instance (by_renaming ρ p) (pair e g) a.formed;
      closed = IsClosed-instance (by_renaming ρ p) (pair e a.statement) a.closed;
      no_positions = labels_renamed is_canonical ρ.to (λ l. refl) (pair e g) a.formed ∙ a.no_positions;
      well_bound = well_bound_patched (pair e g) (rename ρ (pair e g)) (replace_patched (λ l. leaf_tree (ρ.to l)) (λ l. leaf_patch (ρ.to l)) (pair e g)) a.well_bound;
      statements = closed_statements_instance (by_renaming ρ p) e (let f = a.formed in f.0) a.statements;
    }

pub plain_renamed : (ρ : Renaming) → IsPlain ρ → (e g : Tree) → IsPlainGoal e g → IsPlainGoal (rename ρ e) (rename ρ g)
unfolding asked_renamed
plain_renamed ρ p e g h =
    let a = h.asked in
    record {
      asked = asked_renamed ρ p e g a;
      kind = decidable_renamed (λ l. leaf_tree (ρ.to l)) a.statement h.kind;
      no_alias = labels_renamed is_alias ρ.to (λ l. refl) (pair e g) a.formed ∙ h.no_alias;
      no_infer = labels_renamed is_infer ρ.to (infer_kept ρ) (pair e g) a.formed ∙ h.no_infer;
      blurred_environment = environment_renamed ρ p e ∙ ap (rename ρ) h.blurred_environment;
      blurred = blurred_renamed ρ p g ∙ ap (rename ρ) h.blurred;
    }

region_clause : (f : Leaf → Tree) (l : Label) (c d : Tree) → SaysOfRegion (node l c) → SaysOfRegion (put f l d)
region_clause f (label.Clause clause.RegionOutlives) c d h = tt
region_clause f (label.Clause clause.TypeOutlives) c d h = tt
region_clause f l c d h = absurd h

region_says : (f : Leaf → Tree) (t : Tree) → SaysOfRegion t → SaysOfRegion (replace f t)
region_says f (node l c) h = region_clause f l c (replace f c) h
region_says f t h = absurd h

pub region_renamed : (ρ : Renaming) → IsPlain ρ → (e g : Tree) → IsRegionGoal e g → IsRegionGoal (rename ρ e) (rename ρ g)
region_renamed ρ p e g y =
    record {
      statement = rename ρ y.statement;
      binds_nothing = ap (rename ρ) y.binds_nothing;
      says = region_says (λ l. leaf_tree (ρ.to l)) y.statement y.says;
      formed = IsFormed-instance (by_renaming ρ p) (pair e g) y.formed;
      closed = IsClosed-instance (by_renaming ρ p) (pair e y.statement) y.closed;
      statements = closed_statements_instance (by_renaming ρ p) e (let f = y.formed in f.0) y.statements;
      no_alias = labels_renamed is_alias ρ.to (λ l. refl) (pair e g) y.formed ∙ y.no_alias;
      no_infer = labels_renamed is_infer ρ.to (infer_kept ρ) (pair e g) y.formed ∙ y.no_infer;
      blurred_environment = environment_renamed ρ p e ∙ ap (rename ρ) y.blurred_environment;
      blurred = blurred_renamed ρ p g ∙ ap (rename ρ) y.blurred;
    }

-- what a handler judges
affirmed_renamed : (h : Handler) → JudgementsAreKept h → (ρ : Renaming) → IsPlain ρ → (e s : Tree) → IsFormed (pair e s) → IsAffirmed h.judges e s → IsAffirmed h.judges (rename ρ e) (rename ρ s)
affirmed_renamed h law ρ p e s k (feature_allowed {f = n} x) = feature_allowed (law.allows e n (by_renaming ρ p) k.0 x)
affirmed_renamed h law ρ p e s k (has_objects x) = has_objects x
affirmed_renamed h law ρ p e s k (named_const {c = c}) = (let x = fits_leaf ρ (leaf.ConstConstant c) in subst (λ z. IsAffirmed h.judges (rename ρ e) (evaluatable z)) (sym x.1) named_const)
affirmed_renamed h law ρ p e s k value_const = value_const
affirmed_renamed h law ρ p e s k error_const = error_const
affirmed_renamed h law ρ p e s k error_type = error_type
affirmed_renamed h law ρ p e s k (evaluated_const {i = i} {ts = ts} {v = v} q) = evaluated_const (law.evaluates e (alias (alias_of.Const i) ts) v (by_renaming ρ p) (k.0, (k.1.0.1.0, tt)) q)

judged_so : (h : Handler) → JudgementsAreKept h → (ρ : Renaming) → IsPlain ρ → (e s : Tree) (b : Bool) → IsFormed (pair e s) → IsJudged h.judges e s b → IsJudged h.judges (rename ρ e) (rename ρ s) b
judged_so h law ρ p e s true k x = affirmed_renamed h law ρ p e s k x
judged_so h law ρ p e s false k x = record { of_trait = x.of_trait; is = ap (rename ρ) x.is; has_none = x.has_none }

pub judged_renamed : (h : Handler) → JudgementsAreKept h → (ρ : Renaming) → IsPlain ρ → (e g : Tree) (b : Bool) → IsJudgedGoal h e g b → IsJudgedGoal h (rename ρ e) (rename ρ g) b
judged_renamed h law ρ p e g b y =
    let whole : IsFormed (pair e (unbound y.statement)) = subst (λ z. IsFormed (pair e z)) y.binds_nothing y.formed in
    let fs : IsFormed y.statement = whole.1.0.1.1.0 in
    record {
      statement = rename ρ y.statement;
      binds_nothing = ap (rename ρ) y.binds_nothing;
      alike = λ f s k ee es.
          (let f1 : Tree = rename (inverse ρ) f in
          let s1 : Tree = rename (inverse ρ) s in
          let p1 : IsPlain (inverse ρ) = inverse_plain ρ p in
          let k1 : IsFormed (pair f1 s1) = IsFormed-instance (by_renaming (inverse ρ) p1) (pair f s) k in
          let ef : blurred_environment f1 ≡ e = environment_renamed (inverse ρ) p1 f ∙ ap (rename (inverse ρ)) ee ∙ rename_back ρ e whole.0 in
          let eq : blurred s1 ≡ y.statement = blurred_renamed (inverse ρ) p1 s ∙ ap (rename (inverse ρ)) es ∙ rename_back ρ y.statement fs in
          let bf : rename ρ f1 ≡ f = rename_forth ρ f k.0 in
          let bs : rename ρ s1 ≡ s = rename_forth ρ s (k.1.0) in
          subst (λ z. IsJudged h.judges z s b) bf (subst (λ z. IsJudged h.judges (rename ρ f1) z b) bs (judged_so h law ρ p f1 s1 b k1 (y.alike f1 s1 k1 ef eq))));
      formed = IsFormed-instance (by_renaming ρ p) (pair e g) y.formed;
      closed = IsClosed-instance (by_renaming ρ p) (pair e y.statement) y.closed;
      statements = closed_statements_instance (by_renaming ρ p) e whole.0 y.statements;
      no_infer = labels_renamed is_infer ρ.to (infer_kept ρ) (pair e g) y.formed ∙ y.no_infer;
      blurred_environment = environment_renamed ρ p e ∙ ap (rename ρ) y.blurred_environment;
      blurred = blurred_renamed ρ p y.statement ∙ ap (rename ρ) y.blurred;
    }

-- equations and goals of candidates
equation_renamed : (ρ : Renaming) → IsPlain ρ → (q : Equation) → equation_by blurred (equation_by (rename ρ) q) ≡ equation_by (rename ρ) (equation_by blurred q)
equation_renamed ρ p (related a b) = rw (blurred_renamed ρ p a, blurred_renamed ρ p b) refl
equation_renamed ρ p (alike a b) = rw (blurred_renamed ρ p a, blurred_renamed ρ p b) refl

equations_renamed : (ρ : Renaming) → IsPlain ρ → (qs : List Equation) → map (equation_by blurred) (map (equation_by (rename ρ)) qs) ≡ map (equation_by (rename ρ)) (map (equation_by blurred) qs)
equations_renamed ρ p [] = refl
equations_renamed ρ p (q ∷ qs) = cc (equation_renamed ρ p q, equations_renamed ρ p qs)

goals_renamed : (ρ : Renaming) → IsPlain ρ → (ps : List Premise) → map blurred_premise (map (premise_by (rename ρ)) ps) ≡ map (premise_by (rename ρ)) (map blurred_premise ps)
goals_renamed ρ p [] = refl
goals_renamed ρ p (q ∷ qs) = rw (environment_renamed ρ p q.environment, blurred_renamed ρ p q.predicate, goals_renamed ρ p qs) refl

candidate_renamed : (ρ : Renaming) → IsPlain ρ → (x : Candidate) → blurred_candidate (renamed_candidate ρ x) ≡ renamed_candidate ρ (blurred_candidate x)
candidate_renamed ρ p x = rw (equations_renamed ρ p x.equations, goals_renamed ρ p x.goals) refl

candidates_renamed : (ρ : Renaming) → IsPlain ρ → (xs : List Candidate) → map blurred_candidate (map (renamed_candidate ρ) xs) ≡ map (renamed_candidate ρ) (map blurred_candidate xs)
candidates_renamed ρ p [] = refl
candidates_renamed ρ p (x ∷ xs) = cc (candidate_renamed ρ p x, candidates_renamed ρ p xs)

-- what a mapped list has
pub record IsMapped {A B : Type 0} (f : A → B) (xs : List A) (y : B) : Type 0 where
  pub of : A
  pub found : Among xs of
  pub same : y ≡ f of

pub among_back : {A B : Type 0} (f : A → B) (xs : List A) (y : B) → Among (map f xs) y → IsMapped f xs y
among_back f (x ∷ xs) y (inl e) = record { of = x; found = inl refl; same = e }
among_back f (x ∷ xs) y (inr i) = (let r = among_back f xs y i in record { of = r.of; found = inr r.found; same = r.same })
among_back f [] y i = absurd i

pub left_by : (f : Tree → Tree) (q : Equation) → left_of (equation_by f q) ≡ f (left_of q)
left_by f (related a b) = refl
left_by f (alike a b) = refl

pub right_by : (f : Tree → Tree) (q : Equation) → right_of (equation_by f q) ≡ f (right_of q)
right_by f (related a b) = refl
right_by f (alike a b) = refl

formed_renamed : (ρ : Renaming) → IsPlain ρ → (x : Candidate) → IsFormedCandidate x → IsFormedCandidate (renamed_candidate ρ x)
formed_renamed ρ p x f =
    record {
      equations = λ q i.
          (let r = among_back (equation_by (rename ρ)) x.equations q i in
          let k = f.equations r.of r.found in
          (subst IsFormed (sym (ap left_of r.same ∙ left_by (rename ρ) r.of)) (IsFormed-instance (by_renaming ρ p) (left_of r.of) k.0), subst IsFormed (sym (ap right_of r.same ∙ right_by (rename ρ) r.of)) (IsFormed-instance (by_renaming ρ p) (right_of r.of) k.1)));
      no_aliases = λ q i.
          (let r = among_back (equation_by (rename ρ)) x.equations q i in
          let k = f.equations r.of r.found in
          let n = f.no_aliases r.of r.found in (
            ap (any_label is_alias) (ap left_of r.same ∙ left_by (rename ρ) r.of) ∙ labels_renamed is_alias ρ.to (λ l. refl) (left_of r.of) k.0 ∙ n.0,
            ap (any_label is_alias) (ap right_of r.same ∙ right_by (rename ρ) r.of) ∙ labels_renamed is_alias ρ.to (λ l. refl) (right_of r.of) k.1 ∙ n.1,
          ));
      goals = λ q i.
          (let r = among_back (premise_by (rename ρ)) x.goals q i in
          subst (λ z. IsFormed z.predicate) (sym r.same) (IsFormed-instance (by_renaming ρ p) (let y = r.of in y.predicate) (f.goals r.of r.found)));
    }

-- the one way of a goal
goals_there_renamed : (ρ : Renaming) (e : Tree) (ps : List Tree) → map (premise_by (rename ρ)) (goals_there e ps) ≡ goals_there (rename ρ e) (map (rename ρ) ps)
goals_there_renamed ρ e [] = refl
goals_there_renamed ρ e (q ∷ qs) = rw (goals_there_renamed ρ e qs) refl

way_renamed : (h : Handler) → JudgementsAreKept h → (ρ : Renaming) → IsPlain ρ → (e s : Tree) (y : Candidate) → IsFormed (pair e s) → IsOwnWay h.judges e s y → IsOwnWay h.judges (rename ρ e) (rename ρ s) (renamed_candidate ρ y)
way_renamed h law ρ p e s y k by_type = by_type
way_renamed h law ρ p e s y k (by_goals {t = t} {ps = ps} q) =
    subst (λ z. IsOwnWay h.judges (rename ρ e) (is_well_formed (rename ρ t)) (plain_way [] z)) (sym (goals_there_renamed ρ e ps))
    (by_goals (law.well_formed e t ps (by_renaming ρ p) (k.0, (k.1.0.1.0, tt)) q))

way_as_renamed : (h : Handler) → JudgementsAreKept h → (ρ : Renaming) → IsPlain ρ → (e s : Tree) (x : Candidate) → IsFormed (pair e s) → HasWayAs h.judges e s x → HasWayAs h.judges (rename ρ e) (rename ρ s) (renamed_candidate ρ x)
way_as_renamed h law ρ p e s x k w =
    record {
      way = renamed_candidate ρ w.way;
      is_way = way_renamed h law ρ p e s w.way k w.is_way;
      same = candidate_renamed ρ p w.way ∙ ap (renamed_candidate ρ) w.same;
    }

own_way_renamed : (h : Handler) → JudgementsAreKept h → (ρ : Renaming) → IsPlain ρ → (e g : Tree) (x : Candidate) → IsOwnWayGoal h e g x → IsOwnWayGoal h (rename ρ e) (rename ρ g) (renamed_candidate ρ x)
own_way_renamed h law ρ p e g x y =
    let whole : IsFormed (pair e (unbound y.statement)) = subst (λ z. IsFormed (pair e z)) y.binds_nothing y.formed in
    let fs : IsFormed y.statement = whole.1.0.1.1.0 in
    record {
      statement = rename ρ y.statement;
      binds_nothing = ap (rename ρ) y.binds_nothing;
      alike = λ f s k ee es.
          (let f1 : Tree = rename (inverse ρ) f in
          let s1 : Tree = rename (inverse ρ) s in
          let p1 : IsPlain (inverse ρ) = inverse_plain ρ p in
          let k1 : IsFormed (pair f1 s1) = IsFormed-instance (by_renaming (inverse ρ) p1) (pair f s) k in
          let ef : blurred_environment f1 ≡ e = environment_renamed (inverse ρ) p1 f ∙ ap (rename (inverse ρ)) ee ∙ rename_back ρ e whole.0 in
          let eq : blurred s1 ≡ y.statement = blurred_renamed (inverse ρ) p1 s ∙ ap (rename (inverse ρ)) es ∙ rename_back ρ y.statement fs in
          let bf : rename ρ f1 ≡ f = rename_forth ρ f k.0 in
          let bs : rename ρ s1 ≡ s = rename_forth ρ s (k.1.0) in
          subst (λ z. HasWayAs h.judges z s (renamed_candidate ρ x)) bf (subst (λ z. HasWayAs h.judges (rename ρ f1) z (renamed_candidate ρ x)) bs (way_as_renamed h law ρ p f1 s1 x k1 (y.alike f1 s1 k1 ef eq))));
      way = formed_renamed ρ p x y.way;
      formed = IsFormed-instance (by_renaming ρ p) (pair e g) y.formed;
      closed = IsClosed-instance (by_renaming ρ p) (pair e y.statement) y.closed;
      statements = closed_statements_instance (by_renaming ρ p) e whole.0 y.statements;
      no_alias = labels_renamed is_alias ρ.to (λ l. refl) (pair e g) y.formed ∙ y.no_alias;
      no_infer = labels_renamed is_infer ρ.to (infer_kept ρ) (pair e g) y.formed ∙ y.no_infer;
      blurred_environment = environment_renamed ρ p e ∙ ap (rename ρ) y.blurred_environment;
      blurred = blurred_renamed ρ p y.statement ∙ ap (rename ρ) y.blurred;
    }

pub uniform_renamed : (h : Handler) → IsLawfulHandler h → (mode : Mode) (ρ : Renaming) → IsPlain ρ → (e g : Tree) (xs : List Candidate) → IsFormed e → IsFormed g → IsUniform h mode e g xs
    → IsUniform h mode (rename ρ e) (rename ρ g) (map (renamed_candidate ρ) xs)
uniform_renamed h law mode ρ p e g xs fe fg u =
    record {
      alike = λ f q a ee eq.
          (let f1 : Tree = rename (inverse ρ) f in
          let q1 : Tree = rename (inverse ρ) q in
          let p1 : IsPlain (inverse ρ) = inverse_plain ρ p in
          let a1 : IsAsked f1 q1 = asked_renamed (inverse ρ) p1 f q a in
          let ef : blurred_environment f1 ≡ e = environment_renamed (inverse ρ) p1 f ∙ ap (rename (inverse ρ)) ee ∙ rename_back ρ e fe in
          let eg : blurred q1 ≡ g = blurred_renamed (inverse ρ) p1 q ∙ ap (rename (inverse ρ)) eq ∙ rename_back ρ g fg in
          let same : map blurred_candidate (h.offers mode f1 q1) ≡ xs = u.alike f1 q1 a1 ef eg in
          let fa = a.formed in
          let bf : rename ρ f1 ≡ f = rename_forth ρ f fa.0 in
          let bq : rename ρ q1 ≡ q = rename_forth ρ q (fa.1.0) in
          let c = law.commute in
          let moved : h.offers mode (rename ρ f1) (rename ρ q1) ≡ map (renamed_candidate ρ) (h.offers mode f1 q1) = c.renaming mode f1 q1 ρ p a1 in
          let here : h.offers mode f q ≡ h.offers mode (rename ρ f1) (rename ρ q1) = cc (bf, bq) in
          ap (map blurred_candidate) (here ∙ moved) ∙ candidates_renamed ρ p (h.offers mode f1 q1) ∙ ap (map (renamed_candidate ρ)) same);
      sure = λ x i. (let r = among_back (renamed_candidate ρ) xs x i in ap (λ z. z.certainty) r.same ∙ u.sure r.of r.found);
      formed = λ x i. (let r = among_back (renamed_candidate ρ) xs x i in subst IsFormedCandidate (sym r.same) (formed_renamed ρ p r.of (u.formed r.of r.found)));
    }

-- values
under_label : (f : Leaf → Leaf) (vs : List Tree) (l : Label) (c d : Tree) → c ≡ filled vs d → value_or (position_of l) vs (put (λ x. leaf_tree (f x)) l c) ≡ filled vs (put (λ x. leaf_tree (f x)) l d)
under_label f vs (label.Leaf x) c d e = refl
under_label f vs (label.Bound s (index.Bound n) i) c d e = rw e refl
under_label f vs (label.Bound s index.Canonical i) c d e = refl
under_label f vs (label.Ty x) c d e = rw e refl
under_label f vs (label.Const x) c d e = rw e refl
under_label f vs (label.Clause x) c d e = rw e refl
under_label f vs (label.Predicate x) c d e = rw e refl
under_label f vs (label.List x) c d e = rw e refl

pub under_renamed : (f : Leaf → Leaf) (vs : List Tree) (t : Tree) → filled_under (λ l. leaf_tree (f l)) vs t ≡ filled vs (replace (λ l. leaf_tree (f l)) t)
under_renamed f vs empty = refl
under_renamed f vs (more a b) = cc (under_renamed f vs a, under_renamed f vs b)
under_renamed f vs (node l c) = under_label f vs l (filled_under (λ x. leaf_tree (f x)) vs c) (replace (λ x. leaf_tree (f x)) c) (under_renamed f vs c)

pub filled_renamed : (ρ : Renaming) → IsPlain ρ → (vs : List Tree) (t : Tree) → blurred (filled (map (rename ρ) vs) (rename ρ t)) ≡ rename ρ (blurred (filled vs t))
filled_renamed ρ p vs t =
    ap blurred (sym (under_renamed ρ.to (map (rename ρ) vs) t) ∙ sym (replace-filled (λ l. leaf_tree (ρ.to l)) vs t)) ∙ blurred_renamed ρ p (filled vs t)

values_renamed : (ρ : Renaming) → IsPlain ρ → (ss : List Sort) (vs : List Tree) → AreValuesOf ss vs → AreValuesOf ss (map (rename ρ) vs)
values_renamed ρ p [] [] h = tt
values_renamed ρ p [] (v ∷ vs) h = absurd h
values_renamed ρ p (s ∷ ss) [] h = absurd h
values_renamed ρ p (s ∷ ss) (v ∷ vs) h = (
  let k = h.0 in
      record { fits = Fits-instance (by_renaming ρ p) (kind_of_sort s) v k.fits; formed = IsFormed-instance (by_renaming ρ p) v k.formed; closed = IsClosed-instance (by_renaming ρ p) v k.closed },
  values_renamed ρ p ss vs h.1,
)

values_back : (ρ : Renaming) (ss : List Sort) (vs : List Tree) → AreValuesOf ss vs → map (rename ρ) (map (rename (inverse ρ)) vs) ≡ vs
values_back ρ [] [] h = refl
values_back ρ [] (v ∷ vs) h = absurd h
values_back ρ (s ∷ ss) [] h = absurd h
values_back ρ (s ∷ ss) (v ∷ vs) h = (let k = h.0 in cc (rename_forth ρ v k.formed, values_back ρ ss vs h.1))

pub meets_moved : (ρ : Renaming) → IsPlain ρ → (x y : Candidate) (vs : List Tree) → y.fresh ≡ x.fresh → y.equations ≡ map (equation_by (rename ρ)) x.equations → MeetsBlurred x vs → MeetsBlurred y (map (rename ρ) vs)
meets_moved ρ p x y vs ef eq m =
    record {
      values = subst (λ z. AreValuesOf z (map (rename ρ) vs)) (sym ef) (values_renamed ρ p x.fresh vs m.values);
      equal = λ q i.
          (let r = among_back (equation_by (rename ρ)) x.equations q (subst (λ z. Among z q) eq i) in
          let l : left_of q ≡ rename ρ (left_of r.of) = ap left_of r.same ∙ left_by (rename ρ) r.of in
          let k : right_of q ≡ rename ρ (right_of r.of) = ap right_of r.same ∙ right_by (rename ρ) r.of in
          ap (λ z. blurred (filled (map (rename ρ) vs) z)) l ∙ filled_renamed ρ p vs (left_of r.of) ∙ ap (rename ρ) (m.equal r.of r.found) ∙ sym (filled_renamed ρ p vs (right_of r.of)) ∙ ap (λ z. blurred (filled (map (rename ρ) vs) z)) (sym k));
    }

equations_back : (ρ : Renaming) (qs : List Equation) → ((q : Equation) → Among qs q → IsFormed (left_of q) × IsFormed (right_of q)) → qs ≡ map (equation_by (rename (inverse ρ))) (map (equation_by (rename ρ)) qs)
equations_back ρ [] f = refl
equations_back ρ (related a b ∷ qs) f = (let k = f (related a b) (inl refl) in cc (rename_back ρ a k.0, rename_back ρ b k.1, equations_back ρ qs (λ q i. f q (inr i))))
equations_back ρ (alike a b ∷ qs) f = (let k = f (alike a b) (inl refl) in cc (rename_back ρ a k.0, rename_back ρ b k.1, equations_back ρ qs (λ q i. f q (inr i))))

meets_back : (ρ : Renaming) → IsPlain ρ → (x : Candidate) (vs : List Tree) → IsFormedCandidate x → MeetsBlurred (renamed_candidate ρ x) vs → MeetsBlurred x (map (rename (inverse ρ)) vs)
meets_back ρ p x vs f m = meets_moved (inverse ρ) (inverse_plain ρ p) (renamed_candidate ρ x) x vs refl (equations_back ρ x.equations f.equations) m

fixes_renamed : (ρ : Renaming) → IsPlain ρ → (x : Candidate) → IsFormedCandidate x → FixesGoals x → FixesGoals (renamed_candidate ρ x)
fixes_renamed ρ p x f k vs us q mv mu i =
    let r = among_back (premise_by (rename ρ)) x.goals q i in
    let v1 : List Tree = map (rename (inverse ρ)) vs in
    let u1 : List Tree = map (rename (inverse ρ)) us in
    let t : Tree = (let o = r.of in o.predicate) in
    let is : q.predicate ≡ rename ρ t = ap (λ z. z.predicate) r.same in
    let bv : map (rename ρ) v1 ≡ vs = values_back ρ x.fresh vs mv.values in
    let bu : map (rename ρ) u1 ≡ us = values_back ρ x.fresh us mu.values in
    let one : blurred (filled v1 t) ≡ blurred (filled u1 t) = k v1 u1 r.of (meets_back ρ p x vs f mv) (meets_back ρ p x us f mu) r.found in
    let at : (ws w1 : List Tree) → map (rename ρ) w1 ≡ ws → blurred (filled ws q.predicate) ≡ rename ρ (blurred (filled w1 t)) =
    λ ws w1 b. cc (is, b, filled_renamed ρ p w1 t) in
    at vs v1 bv ∙ ap (rename ρ) one ∙ sym (at us u1 bu)

-- what stands for the binder of a goal is renamed too
pub record Reopens (ρ : Renaming) (e g : Tree) : Type 0 where
  pub to : Renaming
  pub plain : IsPlain to
  pub environment : rename to e ≡ rename ρ e
  pub opened : rename to (opened_next e g) ≡ opened_next (rename ρ e) (rename ρ g)

module _ (h : Handler) (law : IsLawfulHandler h) (mode : Mode) (e : Tree) (reopens : (ρ : Renaming) → IsPlain ρ → (g : Tree) → Reopens ρ e g) where
  mutual
    pub decided_renamed : (ρ : Renaming) → IsPlain ρ → (n : ℕ) (g : Tree) (b : Bool) → IsDecided h mode e n g b → IsDecided h mode (rename ρ e) n (rename ρ g) b
    decided_renamed ρ p n g b (by_candidates xs q u o) =
        let r = reopens ρ p g in
        let a = q.asked in
        let f = a.formed in
        let plain : IsPlainGoal (rename r.to e) (rename r.to (opened_next e g)) = plain_renamed r.to r.plain e (opened_next e g) q in
        let uniform : IsUniform h mode (rename r.to e) (rename r.to (opened_next e g)) (map (renamed_candidate r.to) xs) = uniform_renamed h law mode r.to r.plain e (opened_next e g) xs f.0 (f.1.0) u in
        let holds : OneHolds h mode (rename r.to e) n (map (renamed_candidate r.to) xs) b = holds_renamed r.to r.plain n xs b u.formed o in
        by_candidates (map (renamed_candidate r.to) xs)
        (subst (λ z. IsPlainGoal z (opened_next (rename ρ e) (rename ρ g))) r.environment (subst (IsPlainGoal (rename r.to e)) r.opened plain))
        (subst (λ z. IsUniform h mode z (opened_next (rename ρ e) (rename ρ g)) (map (renamed_candidate r.to) xs)) r.environment (subst (λ z. IsUniform h mode (rename r.to e) z (map (renamed_candidate r.to) xs)) r.opened uniform))
        (subst (λ z. OneHolds h mode z n (map (renamed_candidate r.to) xs) b) r.environment holds)
    decided_renamed ρ p n g b (by_region y) =
        let r = reopens ρ p g in
        by_region (subst (λ z. IsRegionGoal z (opened_next (rename ρ e) (rename ρ g))) r.environment (subst (IsRegionGoal (rename r.to e)) r.opened (region_renamed r.to r.plain e (opened_next e g) y)))
    decided_renamed ρ p n g b (by_judgement y) =
        let r = reopens ρ p g in
        by_judgement (subst (λ z. IsJudgedGoal h z (opened_next (rename ρ e) (rename ρ g)) b) r.environment (subst (λ z. IsJudgedGoal h (rename r.to e) z b) r.opened (judged_renamed h law.judges r.to r.plain e (opened_next e g) b y)))
    decided_renamed ρ p n g b (by_own_way x y c) =
        let r = reopens ρ p g in
        let w : IsOwnWayGoal h (rename r.to e) (rename r.to (opened_next e g)) (renamed_candidate r.to x) = own_way_renamed h law.judges r.to r.plain e (opened_next e g) x y in
        by_own_way (renamed_candidate r.to x)
        (subst (λ z. IsOwnWayGoal h z (opened_next (rename ρ e) (rename ρ g)) (renamed_candidate r.to x)) r.environment (subst (λ z. IsOwnWayGoal h (rename r.to e) z (renamed_candidate r.to x)) r.opened w))
        (subst (λ z. CandidateIs h mode z n (renamed_candidate r.to x) b) r.environment (candidate_is_renamed r.to r.plain n x b y.way c))

    holds_renamed : (ρ : Renaming) → IsPlain ρ → (n : ℕ) (xs : List Candidate) (b : Bool) → ((x : Candidate) → Among xs x → IsFormedCandidate x) → OneHolds h mode e n xs b → OneHolds h mode (rename ρ e) n (map (renamed_candidate ρ) xs) b
    holds_renamed ρ p n xs b f none_left = none_left
    holds_renamed ρ p n (x ∷ xs) b f (then_fails {m = m} {k = k} d r s) =
        then_fails (candidate_is_renamed ρ p m x false (f x (inl refl)) d) (holds_renamed ρ p k xs b (λ y i. f y (inr i)) r) s
    holds_renamed ρ p n (x ∷ xs) b f (then_holds {m = m} {k = k} d r s) =
        then_holds (candidate_is_renamed ρ p m x true (f x (inl refl)) d) (holds_renamed ρ p k xs false (λ y i. f y (inr i)) r) s

    candidate_is_renamed : (ρ : Renaming) → IsPlain ρ → (n : ℕ) (x : Candidate) (b : Bool) → IsFormedCandidate x → CandidateIs h mode e n x b → CandidateIs h mode (rename ρ e) n (renamed_candidate ρ x) b
    candidate_is_renamed ρ p n x b f (is_unmet u) = is_unmet (λ vs m. u (map (rename (inverse ρ)) vs) (meets_back ρ p x vs f m))
    candidate_is_renamed ρ p n x b f (is_met vs m k gs) =
        is_met (map (rename ρ) vs) (meets_moved ρ p x (renamed_candidate ρ x) vs refl refl m) (fixes_renamed ρ p x f k) (goals_are_renamed ρ p n vs x.goals b gs)

    goals_are_renamed : (ρ : Renaming) → IsPlain ρ → (n : ℕ) (vs : List Tree) (ps : List Premise) (b : Bool) → GoalsAre h mode e n vs ps b → GoalsAre h mode (rename ρ e) n (map (rename ρ) vs) (map (premise_by (rename ρ)) ps) b
    goals_are_renamed ρ p n vs ps b all_yes = all_yes
    goals_are_renamed ρ p n vs (q ∷ qs) b (one_yes {m = m} {k = k} d r s) =
        one_yes (subst (λ z. IsDecided h mode (rename ρ e) m z true) (sym (filled_renamed ρ p vs q.predicate)) (decided_renamed ρ p m (blurred (filled vs q.predicate)) true d)) (goals_are_renamed ρ p k vs qs b r) s
    goals_are_renamed ρ p n vs (q ∷ qs) b (one_no {m = m} d s) =
        one_no (subst (λ z. IsDecided h mode (rename ρ e) m z false) (sym (filled_renamed ρ p vs q.predicate)) (decided_renamed ρ p m (blurred (filled vs q.predicate)) false d)) s
