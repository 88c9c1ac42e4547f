-- In each table all regions may be one: so an equality of two regions is never refused.
use Rattle.std.proofs.Common.{◌≡◌, inr, ℕ, true, List, [], ◌∷◌, Option, Some, None, refl, sym, ap, subst, ◌∙◌}
use Rattle.nts_model.specs.declared.labels.Relation.{Relation}
use Rattle.nts_model.specs.declared.labels.Relation.TheVariants as relation
use Rattle.nts_model.specs.declared.labels.VariableKind.{VariableKind}
use Rattle.nts_model.specs.declared.labels.VariableKind.TheVariants as kind
use Rattle.nts_model.specs.declared.labels.FreeRegion.TheVariants as region
use Rattle.nts_model.specs.declared.labels.Leaf.{Leaf}
use Rattle.nts_model.specs.declared.labels.Leaf.TheVariants as leaf
use Rattle.nts_model.specs.declared.labels.Label.{Label}
use Rattle.nts_model.specs.declared.labels.Label.TheVariants as label
use Rattle.nts_model.specs.declared.labels.TyHead.TheVariants as ty
use Rattle.nts_model.specs.Terms.Trees.{Tree, empty, more, node, label_of, kind_of, kind_of_label, IsFormed, IsClosed}
use Rattle.nts_model.specs.Tables.Contents.{Content, SlotState, unset, link, known, Recorded, state_of, universe_of}
use Rattle.nts_model.specs.Tables.Resolving.{Knows}
use Rattle.nts_model.specs.Terms.Placeholders.{CanName}
use Rattle.nts_model.specs.Tables.Levels.{term_level, NamesAll, IfNamesAll}
use Rattle.nts_model.specs.Terms.Regions.{RegionName, of_variable, of_free, region_tree, IsRegion}
use Rattle.nts_model.specs.Terms.Fitting.{is_integer, is_float, HasLabel, Fits}
use Rattle.nts_model.specs.Tables.Worlds.{World, inst, SolvesState, IsTrueOf, AreMet, IsValue, Solves}
use Rattle.nts_model.specs.Tables.Equations.{AreUnrelated}
use Rattle.nts_model.specs.Terms.Substitutions.{leaf_tree, put}
use Rattle.nts_decisions.specs.Deciding.{blurred_leaf, blurred}
use Rattle.nts_model.proofs.Terms.Substituting.{kind_of-replace, IsFormed-replace, IsClosed-replace, leaf_alone}
use Rattle.nts_model.proofs.Terms.Identified.{named_tree}

-- all regions made one, where a region keeps what stands below it
abbrev pub merged_leaf : Leaf → Leaf
merged_leaf (leaf.Region r) = leaf.Region region.Erased
merged_leaf (leaf.Variable kind.Region n) = leaf.Region region.Erased
merged_leaf l = l

abbrev merged_label : Label → Label
merged_label (label.Leaf l) = label.Leaf (merged_leaf l)
merged_label l = l

abbrev pub merged : Tree → Tree
merged empty = empty
merged (more a b) = more (merged a) (merged b)
merged (node l c) = node (merged_label l) (merged c)

pub merged_leaf_tree : (l : Leaf) → node (label.Leaf (merged_leaf l)) empty ≡ blurred_leaf l
merged_leaf_tree (leaf.Region r) = refl
merged_leaf_tree (leaf.Variable kind.Region n) = refl
merged_leaf_tree (leaf.Variable kind.Ty n) = refl
merged_leaf_tree (leaf.Variable kind.Int n) = refl
merged_leaf_tree (leaf.Variable kind.Float n) = refl
merged_leaf_tree (leaf.Variable kind.Const n) = refl
merged_leaf_tree (leaf.TyConstant a) = refl
merged_leaf_tree (leaf.ConstConstant a) = refl

-- of a term that is blurring it
merged_node : (l : Label) (c d : Tree) → IsFormed (node l c) → merged c ≡ d → merged (node l c) ≡ put blurred_leaf l d
merged_node (label.Leaf x) c d f e = ap (λ z. node (label.Leaf (merged_leaf x)) (merged z)) (leaf_alone x c f) ∙ merged_leaf_tree x
merged_node (label.Bound a b n) c d f e = ap (node (label.Bound a b n)) e
merged_node (label.Ty x) c d f e = ap (node (label.Ty x)) e
merged_node (label.Const x) c d f e = ap (node (label.Const x)) e
merged_node (label.Clause x) c d f e = ap (node (label.Clause x)) e
merged_node (label.Predicate x) c d f e = ap (node (label.Predicate x)) e
merged_node (label.List x) c d f e = ap (node (label.List x)) e

pub merged_blurred : (t : Tree) → IsFormed t → merged t ≡ blurred t
merged_blurred empty f = refl
merged_blurred (more a b) f = cc (merged_blurred a f.0, merged_blurred b f.1)
merged_blurred (node l c) f = merged_node l c (blurred c) f (merged_blurred c f.1)

-- the world with all regions made one, and all outlives all
abbrev pub blurred_world : World → World
blurred_world w = record { tree = λ n. merged (w.tree n); region = λ r. region.Erased; outlives = λ a b. true }

pub blurred_kinds : (l : Leaf) → kind_of (blurred_leaf l) ≡ Some (kind_of_label (label.Leaf l))
blurred_kinds (leaf.Region r) = refl
blurred_kinds (leaf.Variable kind.Region n) = refl
blurred_kinds (leaf.Variable kind.Ty n) = refl
blurred_kinds (leaf.Variable kind.Int n) = refl
blurred_kinds (leaf.Variable kind.Float n) = refl
blurred_kinds (leaf.Variable kind.Const n) = refl
blurred_kinds (leaf.TyConstant a) = refl
blurred_kinds (leaf.ConstConstant a) = refl

pub blurred_leaf_formed : (l : Leaf) → IsFormed (blurred_leaf l)
blurred_leaf_formed (leaf.Region r) = (tt, tt)
blurred_leaf_formed (leaf.Variable kind.Region n) = (tt, tt)
blurred_leaf_formed (leaf.Variable kind.Ty n) = (tt, tt)
blurred_leaf_formed (leaf.Variable kind.Int n) = (tt, tt)
blurred_leaf_formed (leaf.Variable kind.Float n) = (tt, tt)
blurred_leaf_formed (leaf.Variable kind.Const n) = (tt, tt)
blurred_leaf_formed (leaf.TyConstant a) = (tt, tt)
blurred_leaf_formed (leaf.ConstConstant a) = (tt, tt)

pub blurred_leaf_closed : (l : Leaf) → IsClosed (blurred_leaf l)
blurred_leaf_closed (leaf.Region r) = (tt, tt)
blurred_leaf_closed (leaf.Variable kind.Region n) = (tt, tt)
blurred_leaf_closed (leaf.Variable kind.Ty n) = (tt, tt)
blurred_leaf_closed (leaf.Variable kind.Int n) = (tt, tt)
blurred_leaf_closed (leaf.Variable kind.Float n) = (tt, tt)
blurred_leaf_closed (leaf.Variable kind.Const n) = (tt, tt)
blurred_leaf_closed (leaf.TyConstant a) = (tt, tt)
blurred_leaf_closed (leaf.ConstConstant a) = (tt, tt)

-- instances in it
inst_label : (w : World) (l : Label) (c d : Tree) → merged d ≡ inst (blurred_world w) c → d ≡ inst w c → merged (inst w (node l c)) ≡ inst (blurred_world w) (node l c)
inst_label w (label.Leaf (leaf.Variable k n)) c d e q = refl
inst_label w (label.Leaf (leaf.Region r)) c d e q = ap (node (label.Leaf (leaf.Region region.Erased))) (ap merged (sym q) ∙ e)
inst_label w (label.Leaf (leaf.TyConstant a)) c d e q = ap (node (label.Leaf (leaf.TyConstant a))) (ap merged (sym q) ∙ e)
inst_label w (label.Leaf (leaf.ConstConstant a)) c d e q = ap (node (label.Leaf (leaf.ConstConstant a))) (ap merged (sym q) ∙ e)
inst_label w (label.Bound a b n) c d e q = ap (node (label.Bound a b n)) (ap merged (sym q) ∙ e)
inst_label w (label.Ty x) c d e q = ap (node (label.Ty x)) (ap merged (sym q) ∙ e)
inst_label w (label.Const x) c d e q = ap (node (label.Const x)) (ap merged (sym q) ∙ e)
inst_label w (label.Clause x) c d e q = ap (node (label.Clause x)) (ap merged (sym q) ∙ e)
inst_label w (label.Predicate x) c d e q = ap (node (label.Predicate x)) (ap merged (sym q) ∙ e)
inst_label w (label.List x) c d e q = ap (node (label.List x)) (ap merged (sym q) ∙ e)

pub inst_blurred : (w : World) (t : Tree) → merged (inst w t) ≡ inst (blurred_world w) t
inst_blurred w empty = refl
inst_blurred w (more a b) = cc (inst_blurred w a, inst_blurred w b)
inst_blurred w (node l c) = inst_label w l c (inst w c) (inst_blurred w c) refl

-- universes of types and consts
names_label : (u : ℕ) (l : Label) → CanName u (term_level l) → CanName u (term_level (merged_label l))
names_label u (label.Leaf (leaf.Region r)) h = tt
names_label u (label.Leaf (leaf.Variable kind.Region n)) h = tt
names_label u (label.Leaf (leaf.Variable kind.Ty n)) h = tt
names_label u (label.Leaf (leaf.Variable kind.Int n)) h = tt
names_label u (label.Leaf (leaf.Variable kind.Float n)) h = tt
names_label u (label.Leaf (leaf.Variable kind.Const n)) h = tt
names_label u (label.Leaf (leaf.TyConstant a)) h = h
names_label u (label.Leaf (leaf.ConstConstant a)) h = h
names_label u (label.Bound a b n) h = tt
names_label u (label.Ty x) h = tt
names_label u (label.Const x) h = tt
names_label u (label.Clause x) h = tt
names_label u (label.Predicate x) h = tt
names_label u (label.List x) h = tt

pub names_merged : (u : ℕ) (t : Tree) → NamesAll term_level u t → NamesAll term_level u (merged t)
names_merged u empty h = tt
names_merged u (more a b) h = (names_merged u a h.0, names_merged u b h.1)
names_merged u (node l c) h = (names_label u l h.0, names_merged u c h.1)

if_names_merged : (o : Option ℕ) (t : Tree) → IfNamesAll term_level o t → IfNamesAll term_level o (merged t)
if_names_merged None t h = tt
if_names_merged (Some u) t h = names_merged u t h

-- what a variable may stand for
integer_blurred : (l : Label) (d : Tree) → is_integer l ≡ true → HasLabel is_integer (label_of (put blurred_leaf l d))
integer_blurred (label.Ty (ty.Int i)) d e = refl
integer_blurred (label.Ty (ty.Uint i)) d e = refl
integer_blurred (label.Leaf (leaf.Variable kind.Int n)) d e = refl
integer_blurred l d e = absurd (cc e)

float_blurred : (l : Label) (d : Tree) → is_float l ≡ true → HasLabel is_float (label_of (put blurred_leaf l d))
float_blurred (label.Ty (ty.Float i)) d e = refl
float_blurred (label.Leaf (leaf.Variable kind.Float n)) d e = refl
float_blurred l d e = absurd (cc e)

-- a region is blurred to one
pub name_blurred : (x : RegionName) → blurred (region_tree x) ≡ leaf_tree (leaf.Region region.Erased)
name_blurred (of_variable n) = refl
name_blurred (of_free r) = refl

pub region_is_blurred : (t : Tree) → IsRegion t → blurred t ≡ leaf_tree (leaf.Region region.Erased)
region_is_blurred t (x, e) = ap blurred (named_tree t x e) ∙ name_blurred x

fits_blurred : (k : VariableKind) (t : Tree) → Fits k t → Fits k (blurred t)
fits_blurred kind.Ty t h = kind_of-replace blurred_leaf blurred_kinds t ∙ h
fits_blurred kind.Const t h = kind_of-replace blurred_leaf blurred_kinds t ∙ h
fits_blurred kind.Region t h = rw (region_is_blurred t h) (of_free region.Erased, refl)
fits_blurred kind.Int empty h = absurd h
fits_blurred kind.Int (more a b) h = absurd h
fits_blurred kind.Int (node l c) h = integer_blurred l (blurred c) h
fits_blurred kind.Float empty h = absurd h
fits_blurred kind.Float (more a b) h = absurd h
fits_blurred kind.Float (node l c) h = float_blurred l (blurred c) h

pub value_blurred : (k : VariableKind) (t : Tree) → IsValue k t → IsValue k (blurred t)
value_blurred k t v =
    record {
      fits = fits_blurred k t v.fits;
      closed = IsClosed-replace blurred_leaf blurred_leaf_closed 0 t v.closed;
      formed = IsFormed-replace blurred_leaf blurred_kinds blurred_leaf_formed t v.formed;
    }

solves_state : (c : Content) (w : World) (n : ℕ) (o : Option SlotState) → SolvesState w n o → SolvesState (blurred_world w) n o
solves_state c w n None h = tt
solves_state c w n (Some unset) h = tt
solves_state c w n (Some (link m)) h = ap merged h
solves_state c w n (Some (known t)) h = ap merged h ∙ inst_blurred w t

met_blurred : (w : World) (r : Relation) (a b : Tree) → IsTrueOf w r (inst w a) (inst w b) → IsTrueOf (blurred_world w) r (inst (blurred_world w) a) (inst (blurred_world w) b)
met_blurred w relation.Equal a b h = sym (inst_blurred w a) ∙ ap merged h ∙ inst_blurred w b
met_blurred w relation.RegionOutlives a b h = inr refl
met_blurred w relation.TypeOutlives a b h = refl

all_met_blurred : (w : World) (xs : List Recorded) → AreMet w xs → AreMet (blurred_world w) xs
all_met_blurred w [] h = tt
all_met_blurred w (x ∷ xs) h = (met_blurred w x.relation x.left x.right h.0, all_met_blurred w xs h.1)

merged_value : (k : VariableKind) (t : Tree) → IsValue k t → IsValue k (merged t)
merged_value k t v = subst (IsValue k) (sym (merged_blurred t v.formed)) (value_blurred k t v)

-- with a solution of a table, the same with all regions made one is a solution
pub solves_blurred : (c : Content) (w : World) → Solves c w → Solves c (blurred_world w)
solves_blurred c w s =
    record {
      values = λ n. solves_state c w n (state_of c n) (s.values n);
      constraints = all_met_blurred w c.constraints s.constraints;
      nameable = (let k = s.nameable in record { each = λ n. if_names_merged (universe_of c n) (w.tree n) (k.each n) });
      fitting = (let k = s.fitting in record { each = λ n j e. merged_value j (w.tree n) (k.each n j e) });
    }

-- a region of the table stands for one there
name_in : (c : Content) (w : World) (x : RegionName) → Solves c w → Knows c (region_tree x) → inst (blurred_world w) (region_tree x) ≡ leaf_tree (leaf.Region region.Erased)
name_in c w (of_variable n) s k =
    (let f = s.fitting in let v = f.each n kind.Region k.0.0 in
    merged_blurred (w.tree n) v.formed ∙ region_is_blurred (w.tree n) v.fits)
name_in c w (of_free r) s k = refl

pub region_in : (c : Content) (w : World) (t : Tree) → Solves c w → Knows c t → IsRegion t → inst (blurred_world w) t ≡ leaf_tree (leaf.Region region.Erased)
region_in c w t s k (x, e) = ap (inst (blurred_world w)) (named_tree t x e) ∙ name_in c w x s (subst (Knows c) (named_tree t x e) k)

-- two regions of a table that has a solution are never unrelated
pub regions_relate : (c : Content) (w : World) (a b : Tree) → Solves c w → Knows c a → Knows c b → IsRegion a → IsRegion b → AreUnrelated c a b → ⊥
regions_relate c w a b s ka kb ra rb u = u.none (blurred_world w) (solves_blurred c w s) (region_in c w a s ka ra ∙ sym (region_in c w b s kb rb))
