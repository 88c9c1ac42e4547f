-- Nodes that a walk enters by their parts, and builds again over what was made for these.
use Rattle.std.proofs.Common.{◌≡◌, ℕ, zero, suc, ◌+◌, ◌*◌, ◌≤◌, ◌<◌, Bool, true, false, List, [], ◌∷◌, ◌++◌, map, length, Option, Some, refl, sym, ap, ◌∙◌, arith, subst, add-one}
use Rattle.nts_model.specs.Tables.Passing.{TreePasses, TablePasses}
use Rattle.nts_variance.proofs.Passes.{pass_joined, over_passes, over_parted, entering_passes, popped_passes, sides_pass}
use Rattle.nts_model.specs.declared.labels.Variance.{Variance}
use Rattle.nts_model.specs.declared.labels.Variance.TheVariants as variance
use Rattle.nts_model.specs.declared.labels.AliasHead.TheVariants as alias_of
use Rattle.nts_model.specs.declared.labels.TyHead.TheVariants as ty
use Rattle.nts_model.specs.declared.labels.ConstHead.TheVariants as konst
use Rattle.nts_model.specs.declared.labels.ListHead.TheVariants as list
use Rattle.nts_model.specs.declared.labels.Label.{Label}
use Rattle.nts_model.specs.declared.labels.Label.TheVariants as label
use Rattle.nts_model.specs.Terms.Trees.{Tree, empty, more, node, size, NodeKind, kind_of, binders, IsRow, row_length, Place, a_type, FitsPlace, HavePlaces, AllFit, IsClosedUnder, IsClosed, IsFormed, any_label, is_alias}
use Rattle.nts_model.specs.Terms.Scoping.{KeepsListed}
use Rattle.nts_model.specs.Tables.Contents.{Content}
use Rattle.nts_model.specs.Tables.Resolving.{IsInfer, Knows, IsSound, resolved, rooted, deeply_resolved, variable_rank}
use Rattle.nts_model.specs.Tables.Levels.{NamesAll}
use Rattle.nts_model.specs.Tables.Worlds.{World, inst, Solves}
use Rattle.nts_model.specs.Tables.Holding.{HoldsConstraint}
use Rattle.nts_model.specs.Derivations.Related.{Constraint, times, first_variance, rest_variances, arguments, alias_label, Related, AreRelatedByArgument, one_tree, regions, constructors, functions, values, open_aliases, aliases, subtypes, no_more, and_more}
use Rattle.nts_variance_model.specs.Variances.Judging.{Judging, IsSettled, Settles, AllSettle, IsLawfulJudging, opposite}
use Rattle.nts_variance_model.specs.Variances.Relations.{Relating, SettlesIn}
use Rattle.nts_variance_model.specs.Variances.AnsweredGoals.{IsAnswered}
use Rattle.nts_model.specs.Lists.{Among}
use Rattle.nts_model.specs.Derivations.Proving.{recorded_as}
use Rattle.nts_variance_model.specs.Variances.Leaving.{judging_of}
use Rattle.nts_variance_model.specs.Variances.Forms.{Form, a_constructor, a_function, a_value, an_alias, over, variances_over, FitsForm}
use Rattle.nts_model.proofs.Tables.Slots.{KeepsKinds, Knows-kept}
use Rattle.nts_model.proofs.Tables.Fitting.{IsClosed-under}
use Rattle.nts_model.proofs.Tables.AliasLabels.{region_closed}
use Rattle.nts_model.proofs.Tables.Resolved.{resolved-more, resolved-node, rank_le, deeply_resolved-node, deeply_resolved-empty}
use Rattle.nts_model.proofs.Tables.Alike.{IsRow-deeply_resolved, row_length-deeply_resolved}
use Rattle.nts_model.proofs.Tables.Instances.{Agrees-refl}
use Rattle.nts_model.proofs.Tables.Held.{Continues-refl}
use Rattle.nts_variance_model.proofs.Variances.Settling.{normalizes_itself}
use Rattle.nts_variance_model.proofs.Variances.Alongside.{along_empty}
use Rattle.nts_model.proofs.Terms.Scoping.{closed_listed}
use Rattle.nts_variance_model.proofs.Variances.AnsweredGoals.{answered_relates}
use Rattle.nts_variance_model.proofs.Variances.Generalizing.{settle_joined}
use Rattle.nts_variance_model.proofs.Variances.SettleRows.{settles_turned, empty_forward, more_beside}
use Rattle.nts_variance_model.proofs.Variances.Forms.{IsRow-inst, row_length-inst, inst-over, FitsForm-inst, deeply_resolved-over, FitsForm-deeply_resolved, variances_over_length, variances_over_inst, variances_over_resolved, Knows-over, KeepsListed-over, related_over, form_beside, head_closed}
use Rattle.nts_variance.proofs.Growing.{grown_refl}
use Rattle.nts_variance.proofs.PlainTerms.{stays_none, plain_over, over_plain, entering_plain, popped_plain}
use Rattle.nts_variance.specs.Steps.{WalkStep, enter, build, owe, steps_of, popped, unpopped, entering, part_place, PartsFit, kinds_left, kind_over, EndsAlone, HasSorts, builds, sizes, StepsLead, ended, entered, built, owed, MadeForRow}
use Rattle.nts_variance.specs.Parts.{IsAlone}
use Rattle.nts_variance.specs.Walking.{IsMadeFor, MadeIn, NothingOwed, RelatedTrees, RelatedSides, StandsBy, OwedBy, IsChoice, SettlesOwed, sides, step_weights, KnowsSteps, Walks}
use Rattle.nts_variance.proofs.Runs.{pushed, made_row, parts_made, parts_entered, built_over, unbuilt, unentered, unowed}
use Rattle.nts_variance.proofs.Turns.{answered_front}
use Rattle.nts_model.proofs.Tables.TableInstances.{deeply_resolved-more}

-- a function of trees that is applied to each tree of a row
pub record IsOnRows (g : Tree → Tree) : Type 0 where
  pub none : g empty ≡ empty
  pub each : (a b : Tree) → g (more a b) ≡ more (g a) (g b)
  pub row : (t : Tree) → IsRow t → IsRow (g t)
  pub long : (t : Tree) → IsRow t → row_length (g t) ≡ row_length t

pub inst_rows : (w : World) → IsOnRows (inst w)
inst_rows w = record { none = refl; each = λ a b. refl; row = IsRow-inst w; long = row_length-inst w }

pub resolved_rows : (f : Content) → IsOnRows (deeply_resolved f)
resolved_rows f =
    record { none = deeply_resolved-empty f; each = deeply_resolved-more f; row = IsRow-deeply_resolved f; long = row_length-deeply_resolved f }

-- .. of the parts that are entered, and of what was made for a row
pub steps_entering : (g : Tree → Tree) → IsOnRows g → (v : Variance) (ws : List Variance) (q : Bool) (ts : Tree) (xs : List WalkStep) → IsRow ts → steps_of g (entering v ws q ts xs) ≡ entering v ws q (g ts) (steps_of g xs)
steps_entering g o v ws q empty xs r = (let e = o.none in rw e refl)
steps_entering g o v ws q (more t ts) xs r =
    let e = o.each t ts in
    rw e (ap (λ ys. enter (times v (first_variance ws)) q (g t) ∷ ys) (steps_entering g o v (rest_variances ws) q ts xs r))
steps_entering g o v ws q (node l c) xs r = absurd r

pub map_pushed : (g : Tree → Tree) → IsOnRows g → (rs : Tree) (ss : List Tree) → IsRow rs → map g (pushed rs ss) ≡ pushed (g rs) (map g ss)
map_pushed g o empty ss r = (let e = o.none in rw e refl)
map_pushed g o (more a b) ss r = (let e = o.each a b in rw e (map_pushed g o b (a ∷ ss) r))
map_pushed g o (node l c) ss r = absurd r

-- the whole: its parts are entered, and it is built
pub steps_node : (g : Tree → Tree) → IsOnRows g → (F : Form) (v : Variance) (ws : List Variance) (q : Bool) (ts : Tree) (xs : List WalkStep) → IsRow ts
    → steps_of g (entering v ws q ts (build F (row_length ts) ∷ xs)) ≡ entering v ws q (g ts) (build F (row_length (g ts)) ∷ steps_of g xs)
steps_node g o F v ws q ts xs r =
    steps_entering g o v ws q ts (build F (row_length ts) ∷ xs) r ∙ ap (λ n. entering v ws q (g ts) (build F n ∷ steps_of g xs)) (sym (o.long ts r))

-- a node over a row whose trees may escape
pub inst_built : (w : World) (F : Form) (ts : Tree) → HasSorts F → inst w (over F ts) ≡ over F (inst w ts)
inst_built w (a_constructor i) ts f = inst-over w (a_constructor i) ts f
inst_built w (a_function ss) ts f = inst-over w (a_function ss) ts f
inst_built w (a_value b) ts f = refl
inst_built w (an_alias (alias_of.Ty i)) ts f = refl
inst_built w (an_alias (alias_of.Const i)) ts f = refl

arguments_resolved : (f : Content) (ts : Tree) → deeply_resolved f (arguments ts) ≡ arguments (deeply_resolved f ts)
arguments_resolved f ts =
    let b = deeply_resolved-more f (node (label.List list.Args) ts) empty in
    let c = deeply_resolved-node f (label.List list.Args) ts refl in
    let d = deeply_resolved-empty f in
    cc (b, c, d)

pub resolved_built : (f : Content) (F : Form) (ts : Tree) → HasSorts F → deeply_resolved f (over F ts) ≡ over F (deeply_resolved f ts)
resolved_built f (a_constructor i) ts h = deeply_resolved-over f (a_constructor i) ts h
resolved_built f (a_function ss) ts h = deeply_resolved-over f (a_function ss) ts h
resolved_built f (a_value b) ts h = deeply_resolved-node f (label.Const (konst.Value b)) ts refl
resolved_built f (an_alias (alias_of.Ty i)) ts h = deeply_resolved-node f (label.Ty (ty.Alias i)) (arguments ts) refl ∙ ap (node (label.Ty (ty.Alias i))) (arguments_resolved f ts)
resolved_built f (an_alias (alias_of.Const i)) ts h = deeply_resolved-node f (label.Const (konst.Unevaluated i)) (arguments ts) refl ∙ ap (node (label.Const (konst.Unevaluated i))) (arguments_resolved f ts)

-- what a node says of its parts
pub parts_known : (c : Content) (F : Form) (ts : Tree) → Knows c (over F ts) → Knows c ts
parts_known c (a_constructor i) ts k = k.1.0.1
parts_known c (a_function ss) ts k = k.1.1.0.1
parts_known c (a_value b) ts k = k.1
parts_known c (an_alias (alias_of.Ty i)) ts k = k.1.0.1
parts_known c (an_alias (alias_of.Const i)) ts k = k.1.0.1

pub parts_formed : (F : Form) (ts : Tree) → IsFormed (over F ts) → IsFormed ts
parts_formed (a_constructor i) ts k = k.1.0.1
parts_formed (a_function ss) ts k = k.1.1.0.1
parts_formed (a_value b) ts k = k.1
parts_formed (an_alias (alias_of.Ty i)) ts k = k.1.0.1
parts_formed (an_alias (alias_of.Const i)) ts k = k.1.0.1

parts_settled : (J : Judging) (F : Form) (ts : Tree) → IsSettled J (over F ts) → IsSettled J ts
parts_settled J (a_constructor i) ts k = k.1.0.1
parts_settled J (a_function ss) ts k = k.1.1.0.1
parts_settled J (a_value b) ts k = k.1
parts_settled J (an_alias (alias_of.Ty i)) ts k = k.1.0.1
parts_settled J (an_alias (alias_of.Const i)) ts k = k.1.0.1

parts_named : (f : Label → Option ℕ) (u : ℕ) (F : Form) (ts : Tree) → NamesAll f u (over F ts) → NamesAll f u ts
parts_named f u (a_constructor i) ts k = k.1.0.1
parts_named f u (a_function ss) ts k = k.1.1.0.1
parts_named f u (a_value b) ts k = k.1
parts_named f u (an_alias (alias_of.Ty i)) ts k = k.1.0.1
parts_named f u (an_alias (alias_of.Const i)) ts k = k.1.0.1

kind_beside : (F : Form) (ts rs : Tree) → kind_of (over F rs) ≡ kind_of (over F ts)
kind_beside (a_constructor i) ts rs = refl
kind_beside (a_function ss) ts rs = refl
kind_beside (a_value b) ts rs = refl
kind_beside (an_alias h) ts rs = refl

-- what is made for a node, of what is made for its parts
made_parts_known : (f : Content) (v : Variance) (ws : List Variance) (q : Bool) (ts rs : Tree) → MadeForRow (MadeIn f) NothingOwed v ws q ts rs → Knows f rs
made_parts_known f v ws q empty empty m = tt
made_parts_known f v ws q (more t ts) (more r rs) m = (let a = m.0 in (a.knows, made_parts_known f v (rest_variances ws) q ts rs m.1))
made_parts_known f v ws q empty (more r rs) m = absurd m
made_parts_known f v ws q empty (node l c) m = absurd m
made_parts_known f v ws q (more t ts) empty m = absurd m
made_parts_known f v ws q (more t ts) (node l c) m = absurd m
made_parts_known f v ws q (node l c) rs m = absurd m

made_parts_listed : (f : Content) (v : Variance) (ws : List Variance) (q : Bool) (ts rs : Tree) → MadeForRow (MadeIn f) NothingOwed v ws q ts rs → KeepsListed ts rs
made_parts_listed f v ws q empty empty m = λ ss d h. h
made_parts_listed f v ws q (more t ts) (more r rs) m = λ ss d h. (let a = m.0 in (a.listed ss d h.0, made_parts_listed f v (rest_variances ws) q ts rs m.1 ss d h.1))
made_parts_listed f v ws q empty (more r rs) m = absurd m
made_parts_listed f v ws q empty (node l c) m = absurd m
made_parts_listed f v ws q (more t ts) empty m = absurd m
made_parts_listed f v ws q (more t ts) (node l c) m = absurd m
made_parts_listed f v ws q (node l c) rs m = absurd m

-- no node over a form is a variable
pub over_apart : (F : Form) (ts : Tree) → IsInfer (over F ts) → ⊥
over_apart (a_constructor i) ts h = let e = h.1 in cc
over_apart (a_function ss) ts h = let e = h.1 in cc
over_apart (a_value b) ts h = let e = h.1 in cc
over_apart (an_alias (alias_of.Ty i)) ts h = let e = h.1 in cc
over_apart (an_alias (alias_of.Const i)) ts h = let e = h.1 in cc

-- .. and it is a const, or none, whatever its parts are
over_alone : (F : Form) (ts rs : Tree) → IsAlone (over F rs) → IsAlone (over F ts)
over_alone (a_constructor i) ts rs h = h
over_alone (a_function ss) ts rs h = h
over_alone (a_value b) ts rs h = h
over_alone (an_alias (alias_of.Ty i)) ts rs h = h
over_alone (an_alias (alias_of.Const i)) ts rs h = h

pub made_over : (f : Content) (v : Variance) (ws : List Variance) (q : Bool) (F : Form) (ts rs : Tree) → Knows f (over F ts) → MadeForRow (MadeIn f) NothingOwed v ws q ts rs → MadeIn f v q (over F ts) (over F rs)
made_over f v ws q F ts rs k m =
    let listed = made_parts_listed f v ws q ts rs m in
    record {
      knows = Knows-over f F ts rs k (made_parts_known f v ws q ts rs m) listed;
      kind = kind_beside F ts rs;
      listed = KeepsListed-over F ts rs listed;
      apart = λ no loose. over_apart F rs;
      alone = λ no loose. over_alone F ts rs;
    }

-- related trees are closed below the same binders
module _ (declared : ℕ → List Variance) {Same : Tree → Type 0} {Holds : Constraint → Type 0} {Proved : Tree → Type 0} where
  mutual
    pub related_closed : {v : Variance} {a b : Tree} → Related declared Same Holds Proved v a b → (c : ℕ) → (IsClosedUnder c a → IsClosedUnder c b) × (IsClosedUnder c b → IsClosedUnder c a)
    related_closed (one_tree x) c = ((λ h. h), (λ h. h))
    related_closed (regions {a = a} {b = b} i j h) c = ((λ x. region_closed c b j), (λ x. region_closed c a i))
    related_closed (constructors rs) c = let x = related_rows_closed rs (c + 0 + 0) in ((λ h. (tt, ((tt, x.0 h.1.0.1), tt))), (λ h. (tt, ((tt, x.1 h.1.0.1), tt))))
    related_closed (functions rs) c = let x = related_rows_closed rs (c + 1 + 0) in ((λ h. (tt, (h.1.0, ((tt, x.0 h.1.1.0.1), tt)))), (λ h. (tt, (h.1.0, ((tt, x.1 h.1.1.0.1), tt)))))
    related_closed (values r) c = let x = related_closed r (c + 0) in ((λ h. (tt, (x.0 h.1.0, tt))), (λ h. (tt, (x.1 h.1.0, tt))))
    related_closed (open_aliases h i j rs) c = let x = related_rows_closed rs (c + binders (alias_label h) + 0) in ((λ y. (y.0, ((tt, x.0 y.1.0.1), tt))), (λ y. (y.0, ((tt, x.1 y.1.0.1), tt))))
    related_closed (aliases {a = a} {b = b} is p q g) c = ((λ h. IsClosed-under c b q), (λ h. IsClosed-under c a p))
    related_closed (subtypes {a = a} {b = b} e n i j p q g) c = ((λ h. IsClosed-under c b q), (λ h. IsClosed-under c a p))

    pub related_rows_closed : {v : Variance} {ws : List Variance} {ts us : Tree} → AreRelatedByArgument declared Same Holds Proved v ws ts us → (c : ℕ) → (IsClosedUnder c ts → IsClosedUnder c us) × (IsClosedUnder c us → IsClosedUnder c ts)
    related_rows_closed no_more c = ((λ h. h), (λ h. h))
    related_rows_closed (and_more r rs) c = let first = related_closed r c in let rest = related_rows_closed rs c in ((λ h. (first.0 h.0, rest.0 h.1)), (λ h. (first.1 h.0, rest.1 h.1)))

fits_beside : (F : Form) (ts rs : Tree) → row_length rs ≡ row_length ts → ((c : ℕ) → IsClosedUnder c rs → IsClosedUnder c ts) → FitsForm F ts → FitsForm F rs
fits_beside (a_constructor i) ts rs e g f = tt
fits_beside (a_function ss) ts rs e g f = f
fits_beside (a_value b) ts rs e g f = e ∙ f
fits_beside (an_alias h) ts rs e g f = λ x. f (head_closed h rs ts g x)

times_opposite : (v w : Variance) → opposite (times v w) ≡ times (opposite v) w
times_opposite variance.Invariant w = refl
times_opposite variance.Covariant variance.Invariant = refl
times_opposite variance.Covariant variance.Covariant = refl
times_opposite variance.Covariant variance.Contravariant = refl
times_opposite variance.Contravariant variance.Invariant = refl
times_opposite variance.Contravariant variance.Covariant = refl
times_opposite variance.Contravariant variance.Contravariant = refl

module _ (declared : ℕ → List Variance) (f : Content) (ks : List Tree) where
  abbrev RelatedRows : Variance → List Variance → Tree → Tree → Type 0
  RelatedRows = AreRelatedByArgument declared (λ t. Unit {0}) (λ x. HoldsConstraint f (recorded_as x)) (Among ks)

  -- what stands for the parts, left or right
  left_rows : (v : Variance) (ws : List Variance) (ts rs : Tree) → MadeForRow (StandsBy false declared f ks) (OwedBy false declared f ks) v ws false ts rs → RelatedRows v ws rs ts
  left_rows v ws empty empty m = no_more
  left_rows v ws (more t ts) (more r rs) m = and_more (m.0 refl) (left_rows v (rest_variances ws) ts rs m.1)
  left_rows v ws empty (more r rs) m = absurd m
  left_rows v ws empty (node l c) m = absurd m
  left_rows v ws (more t ts) empty m = absurd m
  left_rows v ws (more t ts) (node l c) m = absurd m
  left_rows v ws (node l c) rs m = absurd m

  right_rows : (v : Variance) (ws : List Variance) (ts rs : Tree) → MadeForRow (StandsBy true declared f ks) (OwedBy true declared f ks) v ws false ts rs → RelatedRows (opposite v) ws ts rs
  right_rows v ws empty empty m = no_more
  right_rows v ws (more t ts) (more r rs) m =
      let here : RelatedTrees declared f ks (opposite (times v (first_variance ws))) t r = m.0 refl in
      and_more (subst (λ p. RelatedTrees declared f ks p t r) (times_opposite v (first_variance ws)) here) (right_rows v (rest_variances ws) ts rs m.1)
  right_rows v ws empty (more r rs) m = absurd m
  right_rows v ws empty (node l c) m = absurd m
  right_rows v ws (more t ts) empty m = absurd m
  right_rows v ws (more t ts) (node l c) m = absurd m
  right_rows v ws (node l c) rs m = absurd m

  -- what stands for a node, of what stands for its parts
  stands_loudly : (z : Bool) (v : Variance) (F : Form) (ts rs : Tree) → IsRow ts → FitsForm F ts → IsRow rs → row_length rs ≡ row_length ts
      → MadeForRow (StandsBy z declared f ks) (OwedBy z declared f ks) v (variances_over declared F ts) false ts rs → RelatedSides z declared f ks v (over F rs) (over F ts)
  stands_loudly false v F ts rs r h q e m =
      let rows : RelatedRows v (variances_over declared F rs) rs ts = subst (λ ws. RelatedRows v ws rs ts) (variances_over_length declared F ts rs r q (sym e)) (left_rows v (variances_over declared F ts) ts rs m) in
      related_over declared v F rs ts (fits_beside F ts rs e (λ c. (related_rows_closed declared rows c).0) h) h rows
  stands_loudly true v F ts rs r h q e m =
      let rows = right_rows v (variances_over declared F ts) ts rs m in
      related_over declared (opposite v) F ts rs h (fits_beside F ts rs e (λ c. (related_rows_closed declared rows c).1) h) rows

  pub stands_over : (z : Bool) (v : Variance) (q : Bool) (F : Form) (ts rs : Tree) → IsRow ts → FitsForm F ts
      → MadeForRow (StandsBy z declared f ks) (OwedBy z declared f ks) v (variances_over declared F ts) q ts rs → StandsBy z declared f ks v q (over F ts) (over F rs)
  stands_over z v false F ts rs r h m = λ e. (let k = made_row (StandsBy z declared f ks) (OwedBy z declared f ks) v (variances_over declared F ts) false ts rs m in stands_loudly z v F ts rs r h k.0 k.1 m)
  stands_over z v true F ts rs r h m = λ e. cc

-- settled trees that parts may settle with, of one that the whole may settle with
module _ (J : Judging) (law : IsLawfulJudging J) (u : ℕ) (whole : Tree) where
  no_row : (v : Variance) (ws : List Variance) (ss : Tree) → IsSettled J ss → AllSettle J v ws ss empty → ss ≡ empty
  no_row v ws ss h x =
      let l = normalizes_itself J law ss x.left h x.of_left in
      let r = empty_forward J law x.right x.of_right in
      sym l ∙ along_empty J law r x.along

  pub choices_row : (v : Variance) (ws : List Variance) (q : Bool) (ts ss : Tree) → IsRow ts → IsSettled J ss → IsFormed ss → ((f : Label → Option ℕ) → NamesAll f u whole → NamesAll f u ss) → AllSettle J v ws ss ts
      → MadeForRow (IsChoice J u whole) (SettlesOwed J) v ws q ts ss
  choices_row v ws q empty ss r h k n x = (let e = no_row v ws ss h x in rw e tt)
  choices_row v ws q (more t ts) ss r h k n x =
      let m = more_beside J law v ws ss t ts h x in
      let e = m.is in
      let h' : IsSettled J (more m.first m.rest) = subst (IsSettled J) e h in
      let k' : IsFormed (more m.first m.rest) = subst IsFormed e k in
      let n' : (f : Label → Option ℕ) → NamesAll f u whole → NamesAll f u (more m.first m.rest) = λ f y. subst (NamesAll f u) e (n f y) in
      let rest = choices_row v (rest_variances ws) q ts m.rest r h'.1 k'.1 (λ f y. (n' f y).1) m.settle_rest in
      subst (MadeForRow (IsChoice J u whole) (SettlesOwed J) v ws q (more t ts)) (sym e) (record { settled = h'.0; formed = k'.0; named = λ f y. (n' f y).0; settles = m.settle }, rest)
  choices_row v ws q (node l c) ss r h k n x = absurd r

  pub record ChosenOver (v : Variance) (q : Bool) (F : Form) (ts s : Tree) : Type 0 where
    pub parts : Tree
    pub is : s ≡ over F parts
    pub fits : MadeForRow (IsChoice J u whole) (SettlesOwed J) v (variances_over J.declared F ts) q ts parts

  pub choice_over : (v : Variance) (q : Bool) (F : Form) (ts s : Tree) → IsRow ts → FitsForm F ts → IsChoice J u whole v q (over F ts) s → ChosenOver v q F ts s
  choice_over v q F ts s r f x =
      let b = form_beside J law v F ts s r f x.settled x.settles in
      let e = b.is in
      record {
        parts = b.parts;
        is = e;
        fits = choices_row v (variances_over J.declared F ts) q ts b.parts r
            (parts_settled J F b.parts (subst (IsSettled J) e x.settled))
            (parts_formed F b.parts (subst IsFormed e x.formed))
            (λ g y. parts_named g u F b.parts (subst (NamesAll g u) e (x.named g y))) b.settle;
      }

-- the measure: parts that are entered weigh less than their node, and a value less than its variable
pub weights_entering : (c : Content) (v : Variance) (ws : List Variance) (q : Bool) (ts : Tree) (xs : List WalkStep) → IsRow ts → step_weights c (entering v ws q ts xs) ≤ 6 * size (resolved c ts) + step_weights c xs
weights_entering c v ws q empty xs r = omega arith
weights_entering c v ws q (more t ts) xs r =
    let rest = weights_entering c v (rest_variances ws) q ts xs r in
    let split : size (resolved c (more t ts)) ≡ size (resolved c t) + size (resolved c ts) + 1 = ap size (resolved-more c t ts) in
    omega (arith, rest, split, rank_le t)
weights_entering c v ws q (node l x) xs r = absurd r

arguments_size : (c : Content) (ts : Tree) → size (resolved c ts) < size (resolved c (arguments ts))
arguments_size c ts =
    let a : size (resolved c (arguments ts)) ≡ size (resolved c (node (label.List list.Args) ts)) + size (resolved c empty) + 1 = ap size (resolved-more c (node (label.List list.Args) ts) empty) in
    let b : size (resolved c (node (label.List list.Args) ts)) ≡ size (resolved c ts) + 1 = ap size (resolved-node c (label.List list.Args) ts refl) in
    omega (arith, a, b)

pub size_over : (c : Content) (F : Form) (ts : Tree) → size (resolved c ts) < size (resolved c (over F ts))
size_over c (a_constructor i) ts =
    let a : size (resolved c (over (a_constructor i) ts)) ≡ size (resolved c (arguments ts)) + 1 = ap size (resolved-node c (label.Ty (ty.Ctor i)) (arguments ts) refl) in
    omega (arith, a, arguments_size c ts)
size_over c (a_function ss) ts =
    let a : size (resolved c (over (a_function ss) ts)) ≡ size (resolved c (more (node (label.List list.Sorts) ss) (arguments ts))) + 1 = ap size (resolved-node c (label.Ty ty.FnPtr) (more (node (label.List list.Sorts) ss) (arguments ts)) refl) in
    let b : size (resolved c (more (node (label.List list.Sorts) ss) (arguments ts))) ≡ size (resolved c (node (label.List list.Sorts) ss)) + size (resolved c (arguments ts)) + 1 = ap size (resolved-more c (node (label.List list.Sorts) ss) (arguments ts)) in
    omega (arith, a, b, arguments_size c ts)
size_over c (a_value b) ts =
    let a : size (resolved c (over (a_value b) ts)) ≡ size (resolved c ts) + 1 = ap size (resolved-node c (label.Const (konst.Value b)) ts refl) in
    omega (arith, a)
size_over c (an_alias (alias_of.Ty i)) ts =
    let a : size (resolved c (over (an_alias (alias_of.Ty i)) ts)) ≡ size (resolved c (arguments ts)) + 1 = ap size (resolved-node c (label.Ty (ty.Alias i)) (arguments ts) refl) in
    omega (arith, a, arguments_size c ts)
size_over c (an_alias (alias_of.Const i)) ts =
    let a : size (resolved c (over (an_alias (alias_of.Const i)) ts)) ≡ size (resolved c (arguments ts)) + 1 = ap size (resolved-node c (label.Const (konst.Unevaluated i)) (arguments ts) refl) in
    omega (arith, a, arguments_size c ts)

pub weights_node : (c : Content) (v : Variance) (ws : List Variance) (q : Bool) (F : Form) (ts : Tree) (n : ℕ) (xs : List WalkStep) → IsRow ts → step_weights c (entering v ws q ts (build F n ∷ xs)) < step_weights c (enter v q (over F ts) ∷ xs)
weights_node c v ws q F ts n xs r = omega (arith, weights_entering c v ws q ts (build F n ∷ xs) r, size_over c F ts)

pub weights_value : (c : Content) (v : Variance) (t value : Tree) (xs : List WalkStep) → variable_rank value < variable_rank t → resolved c t ≡ resolved c value → step_weights c (enter v true value ∷ owe v t ∷ xs) < step_weights c (enter v false t ∷ xs)
weights_value c v t value xs lower same = omega (arith, lower, ap size same)

pub weights_value_on : (c : Content) (v : Variance) (q : Bool) (t value : Tree) (xs : List WalkStep) → variable_rank value < variable_rank t → resolved c t ≡ resolved c value → step_weights c (enter v q value ∷ xs) < step_weights c (enter v q t ∷ xs)
weights_value_on c v q t value xs lower same = omega (arith, lower, ap size same)

pub weights_built : (c : Content) (F : Form) (n : ℕ) (xs : List WalkStep) → step_weights c xs < step_weights c (build F n ∷ xs)
weights_built c F n xs = omega arith

pub weights_owed : (c : Content) (v : Variance) (t : Tree) (xs : List WalkStep) → step_weights c xs < step_weights c (owe v t ∷ xs)
weights_owed c v t xs = omega arith

pub weights_made : (c : Content) (v : Variance) (q : Bool) (t : Tree) (xs : List WalkStep) → step_weights c xs < step_weights c (enter v q t ∷ xs)
weights_made c v q t xs = omega arith

-- .. which a later table keeps, if it knows no more of the trees
pub weights_later : (c d : Content) (xs : List WalkStep) → ((a : Tree) → Knows c a → resolved d a ≡ resolved c a) → KnowsSteps c xs → step_weights d xs ≡ step_weights c xs
weights_later c d [] h k = refl
weights_later c d (enter v q t ∷ xs) h k = (let rest = weights_later c d xs h k.1 in let here = h t k.0 in omega (arith, rest, ap size here))
weights_later c d (build F n ∷ xs) h k = (let rest = weights_later c d xs h k.1 in omega (arith, rest))
weights_later c d (owe v t ∷ xs) h k = (let rest = weights_later c d xs h k.1 in omega (arith, rest))

pub builds_entering : (v : Variance) (ws : List Variance) (q : Bool) (ts : Tree) (xs : List WalkStep) → builds (entering v ws q ts xs) ≡ builds xs
builds_entering v ws q empty xs = refl
builds_entering v ws q (more t ts) xs = builds_entering v (rest_variances ws) q ts xs
builds_entering v ws q (node l x) xs = refl

-- kinds: where a node was entered, its parts are, and it is built
abbrev pub kinds_on : Tree → List (Option NodeKind) → List (Option NodeKind)
kinds_on empty ks = ks
kinds_on (more t ts) ks = kinds_on ts (kind_of t ∷ ks)
kinds_on (node l c) ks = ks

ends_entering : (v : Variance) (ws : List Variance) (q : Bool) (ts : Tree) (xs : List WalkStep) (ks : List (Option NodeKind)) → EndsAlone xs (kinds_on ts ks) → EndsAlone (entering v ws q ts xs) ks
ends_entering v ws q empty xs ks h = h
ends_entering v ws q (more t ts) xs ks h = ends_entering v (rest_variances ws) q ts xs (kind_of t ∷ ks) h
ends_entering v ws q (node l c) xs ks h = h

kinds_left_none : (m : ℕ) → kinds_left m [] ≡ []
kinds_left_none zero = refl
kinds_left_none (suc m) = refl

kinds_left_add : (n m : ℕ) (ks : List (Option NodeKind)) → kinds_left (n + m) ks ≡ kinds_left m (kinds_left n ks)
kinds_left_add zero m ks = let e : zero + m ≡ m = omega arith in ap (λ k. kinds_left k ks) e
kinds_left_add (suc n) m [] = let e : suc n + m ≡ suc (n + m) = omega arith in ap (λ k. kinds_left k []) e ∙ sym (kinds_left_none m)
kinds_left_add (suc n) m (k ∷ ks) = let e : suc n + m ≡ suc (n + m) = omega arith in ap (λ x. kinds_left x (k ∷ ks)) e ∙ kinds_left_add n m ks

pub left_on : (ts : Tree) (ks : List (Option NodeKind)) → IsRow ts → kinds_left (row_length ts) (kinds_on ts ks) ≡ ks
left_on empty ks r = refl
left_on (more t ts) ks r = kinds_left_add (row_length ts) 1 (kinds_on ts (kind_of t ∷ ks)) ∙ ap (kinds_left 1) (left_on ts (kind_of t ∷ ks) r)
left_on (node l c) ks r = absurd r

parts_fit_add : (F : Form) (n : ℕ) (k : Option NodeKind) (hs ks : List (Option NodeKind)) → kinds_left n hs ≡ k ∷ ks → FitsPlace (part_place F) k → PartsFit F n hs → PartsFit F (suc n) hs
parts_fit_add F zero k [] ks e f h = cc
parts_fit_add F zero k (x ∷ hs) ks e f h = let same : k ≡ x = cc in (subst (FitsPlace (part_place F)) same f, tt)
parts_fit_add F (suc n) k [] ks e f h = cc
parts_fit_add F (suc n) k (x ∷ hs) ks e f h = (h.0, parts_fit_add F n k hs ks e f h.1)

-- the first kinds are of the parts, which stand at one place
fit_on : (F : Form) (ts : Tree) (ks : List (Option NodeKind)) → AllFit (part_place F) ts → PartsFit F (row_length ts) (kinds_on ts ks)
fit_on F empty ks f = tt
fit_on F (more t ts) ks f =
    let row : IsRow ts = fit_row (part_place F) ts f.1 in
    let rest = fit_on F ts (kind_of t ∷ ks) f.1 in
    rw add-one (parts_fit_add F (row_length ts) (kind_of t) (kinds_on ts (kind_of t ∷ ks)) ks (left_on ts (kind_of t ∷ ks) row) f.0 rest)
  where
    fit_row : (p : Place) (t : Tree) → AllFit p t → IsRow t
    fit_row p empty h = tt
    fit_row p (more a b) h = fit_row p b h.1
    fit_row p (node l c) h = absurd h
fit_on F (node l c) ks f = absurd f

one_place : (p : Place) (ts : Tree) → HavePlaces (p ∷ []) ts → AllFit p ts
one_place p empty h = absurd h
one_place p (more t empty) h = (h.0, tt)
one_place p (more t (more a b)) h = absurd h.1
one_place p (more t (node l c)) h = absurd h.1
one_place p (node l c) h = absurd h

pub parts_place : (F : Form) (ts : Tree) → IsFormed (over F ts) → AllFit (part_place F) ts
parts_place (a_constructor i) ts f = f.1.0.0
parts_place (a_function ss) ts f = f.1.1.0.0
parts_place (a_value b) ts f = one_place a_type ts f.0
parts_place (an_alias (alias_of.Ty i)) ts f = f.1.0.0
parts_place (an_alias (alias_of.Const i)) ts f = f.1.0.0

pub kind_of_over : (F : Form) (ts : Tree) → kind_of (over F ts) ≡ Some (kind_over F)
kind_of_over (a_constructor i) ts = refl
kind_of_over (a_function ss) ts = refl
kind_of_over (a_value b) ts = refl
kind_of_over (an_alias (alias_of.Ty i)) ts = refl
kind_of_over (an_alias (alias_of.Const i)) ts = refl

pub ends_node : (v : Variance) (ws : List Variance) (q : Bool) (F : Form) (ts : Tree) (xs : List WalkStep) (ks : List (Option NodeKind)) → IsFormed (over F ts) → IsRow ts → EndsAlone (enter v q (over F ts) ∷ xs) ks
    → EndsAlone (entering v ws q ts (build F (row_length ts) ∷ xs)) ks
ends_node v ws q F ts xs ks f r h =
    let left = left_on ts ks r in
    let kind = kind_of_over F ts in
    ends_entering v ws q ts (build F (row_length ts) ∷ xs) ks (fit_on F ts ks (parts_place F ts f), rw (left, ← kind) h)

pub ends_made : (v : Variance) (q : Bool) (t r : Tree) (xs : List WalkStep) (ks : List (Option NodeKind)) → kind_of r ≡ kind_of t → EndsAlone (enter v q t ∷ xs) ks → EndsAlone xs (kind_of r ∷ ks)
ends_made v q t r xs ks e h = rw e h

pub ends_built : (F : Form) (n : ℕ) (rs : Tree) (xs : List WalkStep) (ks : List (Option NodeKind)) → EndsAlone (build F n ∷ xs) ks → EndsAlone xs (kind_of (over F rs) ∷ kinds_left n ks)
ends_built F n rs xs ks h = (let e = kind_of_over F rs in rw e h.1)

pub ends_value : (v : Variance) (t value : Tree) (xs : List WalkStep) (ks : List (Option NodeKind)) → kind_of value ≡ kind_of t → EndsAlone (enter v false t ∷ xs) ks → EndsAlone (enter v true value ∷ owe v t ∷ xs) ks
ends_value v t value xs ks e h = rw e (omega arith, h)

pub ends_value_on : (v : Variance) (q : Bool) (t value : Tree) (xs : List WalkStep) (ks : List (Option NodeKind)) → kind_of value ≡ kind_of t → EndsAlone (enter v q t ∷ xs) ks → EndsAlone (enter v q value ∷ xs) ks
ends_value_on v q t value xs ks e h = rw e h

-- sizes: what was made, and a node for each that is to be built, are no larger than the whole
size_form : (F : Form) (ts : Tree) → size ts + 1 ≤ size (over F ts)
size_form (a_constructor i) ts = omega arith
size_form (a_function ss) ts = omega arith
size_form (a_value b) ts = omega arith
size_form (an_alias (alias_of.Ty i)) ts = omega arith
size_form (an_alias (alias_of.Const i)) ts = omega arith

popped_sizes : (n : ℕ) (ss : List Tree) (r : Tree) → sizes ss + size r ≤ size (popped n ss r) + sizes (unpopped n ss)
popped_sizes zero ss r = omega arith
popped_sizes (suc n) [] r = omega arith
popped_sizes (suc n) (s ∷ ss) r = omega (arith, popped_sizes n ss (more s r))

pub size_run : {P : Variance → Bool → Tree → Tree → Type 0} {Q : Variance → Tree → Tree → Type 0} {xs : List WalkStep} {ss : List Tree} {e : Tree} → StepsLead P Q xs ss e → sizes ss + builds xs ≤ size e
size_run ended = omega arith
size_run (entered {s = s} p h) = omega (arith, size_run h)
size_run (built {F = F} {n = n} {ss = ss} l h) = omega (arith, size_run h, size_form F (popped n ss empty), popped_sizes n ss empty)
size_run (owed p h) = size_run h

-- what is made for a variable's value is made for the variable, and what may be chosen for one of two equal trees may for the other
pub made_value : (f : Content) (t value s : Tree) → IsInfer t → IsClosed value → kind_of value ≡ kind_of t → IsMadeFor f value s → IsMadeFor f t s
made_value f t value s infer closed kinds m =
    record {
      knows = m.knows;
      kind = (let k = m.kind in k ∙ kinds);
      listed = λ ss d h. m.listed ss d (closed_listed ss d value (IsClosed-under d value closed));
      apart = λ no loose. absurd (no infer);
      alone = λ no loose. absurd (no infer);
    }

choice_value : (J : Judging) (u : ℕ) (whole : Tree) (v : Variance) (q r : Bool) (a b s : Tree) → a ≡ b → IsChoice J u whole v q a s → IsChoice J u whole v r b s
choice_value J u whole v q r a b s e x = record { settled = x.settled; formed = x.formed; named = x.named; settles = subst (Settles J v s) e x.settles }

-- the goal of what is owed, where it is answered, and where it settles
pub answered_sides : (declared : ℕ → List Variance) (side : Bool) (f : Content) (ks : List Tree) (v : Variance) (r t : Tree) → IsAnswered f ks (sides side v r t) → RelatedSides side declared f ks v (deeply_resolved f r) (deeply_resolved f t)
answered_sides declared false f ks v r t a = answered_relates declared f ks (sides false v r t) a
answered_sides declared true f ks v r t a = answered_relates declared f ks (sides true v r t) a

pub settles_sides : (side : Bool) (J : Judging) → IsLawfulJudging J → (w : World) (v : Variance) (r t : Tree) → Settles J v (inst w r) (inst w t) → SettlesIn J w (sides side v r t)
settles_sides false J law w v r t h = h
settles_sides true J law w v r t h = settles_turned J law v (inst w r) (inst w t) h

module _ (declared : ℕ → List Variance) (z : Bool) (u : ℕ) where
  -- a node gives way to its parts
  pub walk_node : (c : Content) (v : Variance) (q : Bool) (F : Form) (ts : Tree) (xs : List WalkStep) (ss : List Tree) (gs : List Relating) → IsSound c → Knows c (over F ts) → IsFormed (over F ts) → IsRow ts → FitsForm F ts
      → Walks declared z u c c (enter v q (over F ts) ∷ xs) (entering v (variances_over declared F ts) q ts (build F (row_length ts) ∷ xs)) ss ss gs gs
  walk_node c v q F ts xs ss gs sound known formed row fits =
      let ws = variances_over declared F ts in
      let inner = parts_known c F ts known in
      let inner_formed = parts_formed F ts formed in
      record {
        later = grown_refl c;
        continues = Continues-refl c sound;
        made = λ f s k e h.
            (let m = parts_made (MadeIn f) NothingOwed F v ws q ts xs ss e row h in
            let keeps : KeepsKinds c f = record { grows = k.grows; kinds = k.kinds } in
            entered (made_over f v ws q F ts m.made (Knows-kept c f (over F ts) keeps known) m.fits) m.runs);
        answered = λ f ks h. h;
        stands = λ f s k ks a e h.
            (let g = deeply_resolved f in
            let P = StandsBy z declared f ks in
            let Q = OwedBy z declared f ks in
            let keeps : KeepsKinds c f = record { grows = k.grows; kinds = k.kinds } in
            let row' = IsRow-deeply_resolved f ts row in
            let fits' = FitsForm-deeply_resolved f F ts s (Knows-kept c f ts keeps inner) inner_formed fits in
            let there = steps_node g (resolved_rows f) F v ws q ts xs row in
            let m = parts_made P Q F v ws q (g ts) (steps_of g xs) (map g ss) e row' (subst (λ ys. StepsLead P Q ys (map g ss) e) there h) in
            let vary : ws ≡ variances_over declared F (g ts) = sym (variances_over_resolved declared f F ts row) in
            let own = stands_over declared f ks z v q F (g ts) m.made row' fits' (subst (λ vs. MadeForRow P Q v vs q (g ts) m.made) vary m.fits) in
            let whole : P v q (g (over F ts)) (over F m.made) = subst (λ t. P v q t (over F m.made)) (sym (deeply_resolved-over f F ts fits)) own in
            entered whole m.runs);
        back = λ w h. h;
        complete = λ j w h judged settled goals whole named runs.
            (let J = judging_of declared j in
            let g = inst w in
            let P = IsChoice J u whole in
            let Q = SettlesOwed J in
            let x = unentered P Q v q (g (over F ts)) (steps_of g xs) (map g ss) whole runs in
            let row' = IsRow-inst w ts row in
            let here : P v q (over F (g ts)) x.made = subst (λ t. P v q t x.made) (inst-over w F ts fits) x.fits in
            let m = choice_over J j.lawful u whole v q F (g ts) x.made row' (FitsForm-inst c w F ts h inner inner_formed fits) here in
            let parts : MadeForRow P Q v ws q (g ts) m.parts = subst (λ vs. MadeForRow P Q v vs q (g ts) m.parts) (variances_over_inst declared w F ts row) m.fits in
            let on : StepsLead P Q (steps_of g xs) (over F m.parts ∷ map g ss) whole = subst (λ t. StepsLead P Q (steps_of g xs) (t ∷ map g ss) whole) m.is x.runs in
            let all = parts_entered P Q F v ws q (g ts) m.parts (steps_of g xs) (map g ss) whole parts on in
            record {
              extension = record { world = w; agrees = Agrees-refl (length c.slots) w; solves = h; settled = settled; names = λ f k n. k };
              runs = subst (λ ys. StepsLead P Q ys (map g ss) whole) (sym (steps_node g (inst_rows w) F v ws q ts xs row)) all;
              goals = goals;
            });
        plain = λ h k.
            (let x = plain_over c F ts (deeply_resolved-over c F ts fits) h.0 in
            (stays_none c, entering_plain c v ws q ts (build F (row_length ts) ∷ xs) x.1 (x.0, h.1), k));
        passes = λ P p h a b k. (let x = over_parted P F ts a.0 in (h, entering_passes P v ws q ts (build F (row_length ts) ∷ xs) x.1 (x.0, a.1), b, k));
      }

  -- a node is built
  pub walk_built : (c : Content) (F : Form) (rs : Tree) (n : ℕ) (xs : List WalkStep) (ss : List Tree) (gs : List Relating) → IsSound c → IsRow rs → n ≡ row_length rs → HasSorts F
      → Walks declared z u c c (build F n ∷ xs) xs (pushed rs ss) (over F rs ∷ ss) gs gs
  walk_built c F rs n xs ss gs sound row same sorts =
      record {
        later = grown_refl c;
        continues = Continues-refl c sound;
        made = λ f s k e h. built_over (MadeIn f) NothingOwed F rs n xs ss e row same h;
        answered = λ f ks h. h;
        stands = λ f s k ks a e h.
            (let g = deeply_resolved f in
            let P = StandsBy z declared f ks in
            let Q = OwedBy z declared f ks in
            let one : StepsLead P Q (steps_of g xs) (over F (g rs) ∷ map g ss) e = subst (λ t. StepsLead P Q (steps_of g xs) (t ∷ map g ss) e) (resolved_built f F rs sorts) h in
            let two = built_over P Q F (g rs) n (steps_of g xs) (map g ss) e (IsRow-deeply_resolved f rs row) (same ∙ sym (row_length-deeply_resolved f rs row)) one in
            subst (λ ts. StepsLead P Q (build F n ∷ steps_of g xs) ts e) (sym (map_pushed g (resolved_rows f) rs ss row)) two);
        back = λ w h. h;
        complete = λ j w h judged settled goals whole named runs.
            (let J = judging_of declared j in
            let g = inst w in
            let P = IsChoice J u whole in
            let Q = SettlesOwed J in
            let one : StepsLead P Q (build F n ∷ steps_of g xs) (pushed (g rs) (map g ss)) whole = subst (λ ts. StepsLead P Q (build F n ∷ steps_of g xs) ts whole) (map_pushed g (inst_rows w) rs ss row) runs in
            let two = unbuilt P Q F (g rs) n (steps_of g xs) (map g ss) whole (IsRow-inst w rs row) (same ∙ sym (row_length-inst w rs row)) one in
            record {
              extension = record { world = w; agrees = Agrees-refl (length c.slots) w; solves = h; settled = settled; names = λ f k n. k };
              runs = subst (λ t. StepsLead P Q (steps_of g xs) (t ∷ map g ss) whole) (sym (inst_built w F rs sorts)) two;
              goals = goals;
            });
        plain = λ h k. (let x = popped_plain c rs ss row k in (stays_none c, h.1, (over_plain c F rs (resolved_built c F rs sorts) h.0 x.0, x.1)));
        passes = λ P p h a b k. (let x = popped_passes P rs ss row b in (h, a.1, (over_passes P F rs a.0 x.0, x.1), k));
      }

  -- a variable gives way to its value, and is owed what was made for that
  pub walk_value : (c : Content) (v : Variance) (t value : Tree) (xs : List WalkStep) (ss : List Tree) (gs : List Relating) → IsSound c → IsInfer t → IsClosed value → kind_of value ≡ kind_of t → resolved c t ≡ resolved c value → ((w : World) → Solves c w → inst w t ≡ inst w value) → ((P : Label → Bool) → TablePasses P c → TreePasses P value)
      → Walks declared z u c c (enter v false t ∷ xs) (enter v true value ∷ owe v t ∷ xs) ss ss gs gs
  walk_value c v t value xs ss gs sound infer closed kinds same is labels =
      record {
        later = grown_refl c;
        continues = Continues-refl c sound;
        made = λ f s k e h.
            (let a = unentered (MadeIn f) NothingOwed v true value (owe v t ∷ xs) ss e h in
            let b = unowed (MadeIn f) NothingOwed v t xs a.made ss e a.runs in
            entered (made_value f t value a.made infer closed kinds a.fits) b.runs);
        answered = λ f ks h. h;
        stands = λ f s k ks a e h.
            (let g = deeply_resolved f in
            let P = StandsBy z declared f ks in
            let Q = OwedBy z declared f ks in
            let a = unentered P Q v true (g value) (owe v (g t) ∷ steps_of g xs) (map g ss) e h in
            let b = unowed P Q v (g t) (steps_of g xs) a.made (map g ss) e a.runs in
            entered (λ q. b.fits) b.runs);
        back = λ w h. h;
        complete = λ j w h judged settled goals whole named runs.
            (let J = judging_of declared j in
            let g = inst w in
            let x = unentered (IsChoice J u whole) (SettlesOwed J) v false (g t) (steps_of g xs) (map g ss) whole runs in
            let f = x.fits in
            record {
              extension = record { world = w; agrees = Agrees-refl (length c.slots) w; solves = h; settled = settled; names = λ f k n. k };
              runs = entered (choice_value J u whole v false true (g t) (g value) x.made (is w h) x.fits) (owed f.settles x.runs);
              goals = goals;
            });
        plain = λ h k. (stays_none c, (ap (any_label is_alias) (sym same) ∙ h.0, h.1), k);
        passes = λ P p h a b k. (h, (labels P h, (a.0, a.1)), b, k);
      }

  -- .. or gives way to its value alone, of which the same is said
  pub walk_value_on : (c : Content) (v : Variance) (q : Bool) (t value : Tree) (xs : List WalkStep) (ss : List Tree) (gs : List Relating) → IsSound c → Knows c t → Knows c value → IsInfer t → IsClosed value → kind_of value ≡ kind_of t → resolved c t ≡ resolved c value
      → ((w : World) → Solves c w → inst w t ≡ inst w value) → ((P : Label → Bool) → TablePasses P c → TreePasses P value) → Walks declared z u c c (enter v q t ∷ xs) (enter v q value ∷ xs) ss ss gs gs
  walk_value_on c v q t value xs ss gs sound known known_value infer closed kinds same is labels =
      record {
        later = grown_refl c;
        continues = Continues-refl c sound;
        made = λ f s k e h.
            (let a = unentered (MadeIn f) NothingOwed v q value xs ss e h in
            entered (made_value f t value a.made infer closed kinds a.fits) a.runs);
        answered = λ f ks h. h;
        stands = λ f s k ks a e h.
            (let g = deeply_resolved f in
            let one : g t ≡ g value = sym (k.values t known) ∙ ap (λ y. g (rooted c y)) same ∙ k.values value known_value in
            let a = unentered (StandsBy z declared f ks) (OwedBy z declared f ks) v q (g value) (steps_of g xs) (map g ss) e h in
            entered (subst (λ y. StandsBy z declared f ks v q y a.made) (sym one) a.fits) a.runs);
        back = λ w h. h;
        complete = λ j w h judged settled goals whole named runs.
            (let J = judging_of declared j in
            let g = inst w in
            let x = unentered (IsChoice J u whole) (SettlesOwed J) v q (g t) (steps_of g xs) (map g ss) whole runs in
            record {
              extension = record { world = w; agrees = Agrees-refl (length c.slots) w; solves = h; settled = settled; names = λ f k n. k };
              runs = entered (choice_value J u whole v q q (g t) (g value) x.made (is w h) x.fits) x.runs;
              goals = goals;
            });
        plain = λ h k. (stays_none c, (ap (any_label is_alias) (sym same) ∙ h.0, h.1), k);
        passes = λ P p h a b k. (h, (labels P h, a.1), b, k);
      }

  -- what is owed is left as a goal
  pub walk_owed : (c : Content) (v : Variance) (t r : Tree) (xs : List WalkStep) (ss : List Tree) (gs : List Relating) → IsSound c
      → Walks declared z u c c (owe v t ∷ xs) xs (r ∷ ss) (r ∷ ss) gs (gs ++ sides z v r t ∷ [])
  walk_owed c v t r xs ss gs sound =
      record {
        later = grown_refl c;
        continues = Continues-refl c sound;
        made = λ f s k e h. owed tt h;
        answered = λ f ks h. (answered_front f ks gs (sides z v r t ∷ []) h).0;
        stands = λ f s k ks a e h. (let b = answered_front f ks gs (sides z v r t ∷ []) a in owed (answered_sides declared z f ks v r t b.1.0) h);
        back = λ w h. h;
        complete = λ j w h judged settled goals whole named runs.
            (let J = judging_of declared j in
            let g = inst w in
            let x = unowed (IsChoice J u whole) (SettlesOwed J) v (g t) (steps_of g xs) (g r) (map g ss) whole runs in
            record {
              extension = record { world = w; agrees = Agrees-refl (length c.slots) w; solves = h; settled = settled; names = λ f k n. k };
              runs = x.runs;
              goals = settle_joined J j.lawful w gs (sides z v r t ∷ []) goals (settles_sides z J j.lawful w v r t x.fits, tt);
            });
        plain = λ h k. (stays_none c, h, k);
        passes = λ P p h a b k. (h, a.1, b, pass_joined P gs (sides z v r t ∷ []) k (sides_pass P z v r t b.0 a.0));
      }
