-- Terms without positions of canonical values.
use Rattle.std.proofs.Common.{◌≡◌, Bool, true, false, refl, List, None, ◌∙◌, ◌∷◌, ◌⊎◌}
use Rattle.std.specs.Prelude.{◌||◌}
use Rattle.nts_model.specs.Terms.Trees.{Tree, empty, more, node, any_label, is_canonical, binders, Meets, shape, IsFormed}
use Rattle.nts_model.specs.Terms.Scoping.{ListsBound, IsWellBound}
use Rattle.nts_model.specs.Tables.Contents.{Content}
use Rattle.nts_model.specs.Tables.Resolving.{KnowsLeaves, Knows}
use Rattle.nts_model.specs.Terms.Substitutions.{filled, position_of}
use Rattle.nts_model.specs.declared.labels.BoundVarIndexKind.TheVariants as index
use Rattle.nts_model.specs.declared.labels.Label.{Label}
use Rattle.nts_model.specs.declared.labels.Label.TheVariants as label

pub or_false : (a b : Bool) → (a || b) ≡ false → (a ≡ false) × (b ≡ false)
or_false true b e = cc
or_false false b e = (refl, e)

pub false_or : (a b : Bool) → a ≡ false → b ≡ false → (a || b) ≡ false
false_or true b e f = cc
false_or false b e f = f

-- what a table knows has none
pub known_no_positions : (c : Content) (t : Tree) → Knows c t → any_label is_canonical t ≡ false
known_no_positions c empty h = refl
known_no_positions c (more a b) h = false_or (any_label is_canonical a) (any_label is_canonical b) (known_no_positions c a h.0) (known_no_positions c b h.1)
known_no_positions c (node l t) h = false_or (is_canonical l) (any_label is_canonical t) h.0.2 (known_no_positions c t h.1)

-- .. and its binders list what they bind
pub known_well_bound : (c : Content) (t : Tree) → Knows c t → IsWellBound t
known_well_bound c empty h = tt
known_well_bound c (more a b) h = (known_well_bound c a h.0, known_well_bound c b h.1)
known_well_bound c (node l t) h = (h.2, known_well_bound c t h.1)

-- a table knows such a term where it knows the leaves
pub leaves_known : (c : Content) (t : Tree) → KnowsLeaves c t → any_label is_canonical t ≡ false → IsWellBound t → Knows c t
leaves_known c empty h e w = tt
leaves_known c (more a b) h e w =
    let p = or_false (any_label is_canonical a) (any_label is_canonical b) e in
    (leaves_known c a h.0 p.0 w.0, leaves_known c b h.1 p.1 w.1)
leaves_known c (node l t) h e w =
    let p = or_false (is_canonical l) (any_label is_canonical t) e in
    ((h.0.0, h.0.1, p.0), leaves_known c t h.1 p.1 w.1, w.0)

pub known_leaves : (c : Content) (t : Tree) → Knows c t → KnowsLeaves c t
known_leaves c empty h = tt
known_leaves c (more a b) h = (known_leaves c a h.0, known_leaves c b h.1)
known_leaves c (node l t) h = ((h.0.0, h.0.1), known_leaves c t h.1)

-- a pair has none where its parts have none
pub pair_no_positions : (a b : Tree) → any_label is_canonical a ≡ false → any_label is_canonical b ≡ false → any_label is_canonical (more a (more b empty)) ≡ false
pair_no_positions a b h k =
    false_or (any_label is_canonical a) (any_label is_canonical (more b empty)) h
    (false_or (any_label is_canonical b) false k refl)

-- formed, without positions, and what is bound is listed
abbrev pub IsFormedTerm : Tree → Type 0
IsFormedTerm empty = Unit {0}
IsFormedTerm (more a b) = IsFormedTerm a × IsFormedTerm b
IsFormedTerm (node l c) = Meets (shape l) c × IsFormedTerm c × (is_canonical l ≡ false) × ListsBound (binders l) c

pub formed_term : (t : Tree) → IsFormed t → any_label is_canonical t ≡ false → IsWellBound t → IsFormedTerm t
formed_term empty f e w = tt
formed_term (more a b) f e w =
    let h = or_false (any_label is_canonical a) (any_label is_canonical b) e in
    (formed_term a f.0 h.0 w.0, formed_term b f.1 h.1 w.1)
formed_term (node l c) f e w =
    let h = or_false (is_canonical l) (any_label is_canonical c) e in
    (f.0, formed_term c f.1 h.1 w.1, h.0, w.0)

pub term_formed : (t : Tree) → IsFormedTerm t → IsFormed t
term_formed empty h = tt
term_formed (more a b) h = (term_formed a h.0, term_formed b h.1)
term_formed (node l c) h = (h.0, term_formed c h.1)

pub term_no_positions : (t : Tree) → IsFormedTerm t → any_label is_canonical t ≡ false
term_no_positions empty h = refl
term_no_positions (more a b) h = false_or (any_label is_canonical a) (any_label is_canonical b) (term_no_positions a h.0) (term_no_positions b h.1)
term_no_positions (node l c) h = false_or (is_canonical l) (any_label is_canonical c) h.2 (term_no_positions c h.1)

pub term_well_bound : (t : Tree) → IsFormedTerm t → IsWellBound t
term_well_bound empty h = tt
term_well_bound (more a b) h = (term_well_bound a h.0, term_well_bound b h.1)
term_well_bound (node l c) h = (h.3, term_well_bound c h.1)

-- without positions there is nothing to fill
position_none : (l : Label) → is_canonical l ≡ false → position_of l ≡ None
position_none (label.Bound a index.Canonical n) e = cc
position_none (label.Bound a (index.Bound i) n) e = refl
position_none (label.Leaf y) e = refl
position_none (label.Ty y) e = refl
position_none (label.Const y) e = refl
position_none (label.Clause y) e = refl
position_none (label.Predicate y) e = refl
position_none (label.List y) e = refl

pub filled-none : (vs : List Tree) (t : Tree) → any_label is_canonical t ≡ false → filled vs t ≡ t
filled-none vs empty e = refl
filled-none vs (more a b) e =
    let (x, y) = or_false (any_label is_canonical a) (any_label is_canonical b) e in
    cc (filled-none vs a x, filled-none vs b y)
filled-none vs (node l t) e =
    let (x, y) = or_false (is_canonical l) (any_label is_canonical t) e in
    rw (position_none l x, filled-none vs t y) refl
