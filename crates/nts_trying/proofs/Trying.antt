-- Trying a candidate: what its new variables and its equations do.
use Rattle.std.proofs.Common.{◌≡◌, inl, inr, ℕ, zero, suc, ◌+◌, ◌<◌, List, [], ◌∷◌, ◌++◌, map, get_or, take, length, refl, sym, ◌∙◌, subst, arith, length-append}
use Rattle.std.proofs.lemmas.List.{take_more}
use Rattle.nts_model.specs.declared.labels.Sort.{Sort}
use Rattle.nts_model.specs.declared.labels.Sort.TheVariants as sort
use Rattle.nts_model.specs.declared.labels.Leaf.{Leaf}
use Rattle.nts_model.specs.Terms.Trees.{Tree, variable_tree}
use Rattle.nts_model.specs.Tables.Contents.{Content}
use Rattle.nts_model.specs.Tables.Resolving.{Knows}
use Rattle.nts_model.specs.Terms.Substitutions.{leaf_tree, Occurs, filled}
use Rattle.nts_model.specs.Tables.Equations.{AreRelated, AreUnrelated}
use Rattle.nts_model.specs.Derivations.Handlers.{kind_of_sort}
use Rattle.nts_model.specs.Answers.Applying.{IsProperContent, IsNew}
use Rattle.nts_model.specs.Refutation.Choosing.{left_of, right_of, Freshens, EquatesAll, FailsToEquate, MeetsEquations}
use Rattle.nts_theory.proofs.Refutation.Choosing.{AreOfTable, IsProperContent-with_slot, fresh_known, equations_known, unmet_when_failed, met_when_equated}
use Rattle.nts_store.specs.declared.nodes.NodeId.{NodeId}
use Rattle.nts_store.specs.Growth.{tree_at, trees_at, AllIn, Extends}
use Rattle.nts_store.specs.Kept.{map-kept}
use Rattle.nts_store.specs.Formed.{AreFormed}
use Rattle.nts_terms.specs.declared.handles.Goal.{Goal}
use Rattle.nts_unify.specs.Entries.{Entries, added}
use Rattle.nts_unify.specs.Reading.{content_of, slot_of}
use Rattle.nts_unify.specs.Lawful.{content_of-extended, content_of-added}
use Rattle.nts_table.proofs.TermTables.{proper_content}
use Rattle.nts_table.specs.Tables.{Table, IsTable}
use Rattle.nts_table.specs.Fresh.{variable_kind, with_fresh, fresh_row}
use Rattle.nts_table.specs.Making.{new_variable}
use Rattle.nts_candidates.specs.declared.data.Equation.{Equation}
use Rattle.nts_candidates.specs.declared.data.EquationKind.{EquationKind}
use Rattle.nts_candidates.specs.declared.data.EquationKind.TheVariants as kind_data
use Rattle.nts_delegate.specs.Candidates.{KnowsGoal, IsOverIn, IsEquation, AreEquations}
use Rattle.nts_delegate.proofs.Over.{leaf_known, over_knows}
use Rattle.nts_candidates.specs.Offered.{equation_as, equation_of}
use Rattle.nts_trying.specs.Instances.{instance_at}
use Rattle.nts_meaning.specs.Evaluation.{IsPosed}
use Rattle.nts_trying.specs.Choices.{EquatesCandidate}
use Rattle.nts_meaning.proofs.Running.{equation-kept}
use Rattle.nts_unify.proofs.Changes.{length-slots}

-- new variables for a list of sorts
kinds_are : (s : Sort) → variable_kind s ≡ kind_of_sort s
kinds_are sort.Ty = refl
kinds_are sort.Region = refl
kinds_are sort.Const = refl

pub freshens : (ts us : List Tree) (vs : List NodeId) (e : Entries) (ss : List Sort) → IsProperContent (content_of ts e) → trees_at us vs ≡ fresh_row (length e.variables) ss → Freshens e.universe ss (map (tree_at us) vs) (content_of ts e) (content_of ts (with_fresh e ss))
freshens ts us [] e [] p h = refl
freshens ts us [] e (s ∷ ss) p h = cc
freshens ts us (v ∷ vs) e [] p h = cc
freshens ts us (v ∷ vs) e (s ∷ ss) p h =
    let x = new_variable e (variable_kind s) in
    let next = added e x in
    let first : tree_at us v ≡ variable_tree (variable_kind s) (length e.variables) = cc in
    let longer : length next.variables ≡ suc (length e.variables) = omega (arith, length-append e.variables (x ∷ [])) in
    let rest : trees_at us vs ≡ fresh_row (length next.variables) ss = rw longer cc in
    let same = content_of-added ts e x in
    let proper : IsProperContent (content_of ts next) = rw same (IsProperContent-with_slot (content_of ts e) (slot_of ts x) refl p) in
    let kind = kinds_are s in
    let slots = sym (length-slots ts e.variables) in
    let new : IsNew (content_of ts e) (content_of ts next) (kind_of_sort s) e.universe (tree_at us v) =
    record {
      slot = slot_of ts x;
      of_kind = kinds_are s;
      universe = refl;
      free = refl;
      entries = same;
      tree = first ∙ (λ i. variable_tree (kind i) (slots i));
      proper = proper;
    } in
    (content_of ts next, new, omega arith, freshens ts us vs next ss proper rest)

pub gave_freshened : {a b : List Tree} {t u : Table} (fresh : List Sort) (vs : List NodeId) → IsTable a t → IsTable b u → Extends a b → u.entries ≡ with_fresh t.entries fresh → trees_at b vs ≡ fresh_row (length t.entries.variables) fresh → Freshens t.entries.universe fresh (map (tree_at b) vs) (content_of a t.entries) (content_of b u.entries)
gave_freshened {a} {b} {t} {u} fresh vs h k e q r =
    let same = content_of-extended e h.now in
    rw (q, ← same) (freshens b b vs t.entries fresh (rw same (proper_content h)) r)

-- the sides of an equation
pub left_is : (k : EquationKind) (a b : Tree) → left_of (equation_as k a b) ≡ a
left_is kind_data.Related a b = refl
left_is kind_data.Structural a b = refl

pub right_is : (k : EquationKind) (a b : Tree) → right_of (equation_as k a b) ≡ b
right_is kind_data.Related a b = refl
right_is kind_data.Structural a b = refl

leaves_known : (ts : List Tree) (fresh : List Sort) (g : Goal) (c : Content) (x : NodeId) (l : Leaf) → KnowsGoal ts c g → IsOverIn ts fresh g x → Occurs l (tree_at ts x) → Knows c (leaf_tree l)
leaves_known ts fresh g c x l k o i = (let h = leaf_known c l (tree_at ts x) i (over_knows o c k) in ((h.0, h.1, refl), tt, tt))

-- the equations of a candidate are formed, and over what the table knows
pub equations_of_table : (ts : List Tree) (fresh : List Sort) (g : Goal) (c : Content) (qs : List Equation) → AreFormed ts → KnowsGoal ts c g → AreEquations ts fresh g qs → AreOfTable c (map (equation_of ts) qs)
equations_of_table ts fresh g c [] f k h = record { left_formed = λ q i. absurd i; right_formed = λ q i. absurd i; left_well_bound = λ q i. absurd i; right_well_bound = λ q i. absurd i; left_leaves = λ q i. absurd i; right_leaves = λ q i. absurd i }
equations_of_table ts fresh g c (x ∷ qs) f k h =
    let rest = equations_of_table ts fresh g c qs f k h.1 in
    let one = h.0 in
    let left = left_is x.kind (tree_at ts x.lhs.node) (tree_at ts x.rhs.node) in
    let right = right_is x.kind (tree_at ts x.lhs.node) (tree_at ts x.rhs.node) in
    record {
      left_formed = λ q i. elim i [ inl e ↦ rw (e, left) (f x.lhs.node one.lhs.within) | inr j ↦ rest.left_formed q j ];
      right_formed = λ q i. elim i [ inl e ↦ rw (e, right) (f x.rhs.node one.rhs.within) | inr j ↦ rest.right_formed q j ];
      left_well_bound = λ q i. elim i [ inl e ↦ rw (e, left) one.lhs.well_bound | inr j ↦ rest.left_well_bound q j ];
      right_well_bound = λ q i. elim i [ inl e ↦ rw (e, right) one.rhs.well_bound | inr j ↦ rest.right_well_bound q j ];
      left_leaves = λ q i l o. elim i [ inl e ↦ leaves_known ts fresh g c x.lhs.node l k one.lhs (rw (e, left) at o) | inr j ↦ rest.left_leaves q j l o ];
      right_leaves = λ q i l o. elim i [ inl e ↦ leaves_known ts fresh g c x.rhs.node l k one.rhs (rw (e, right) at o) | inr j ↦ rest.right_leaves q j l o ];
    }

-- one equation more
equated_push : (a : List Tree) (xs : List Tree) (qs : List Equation) (q : Equation) (c d e : Content) → EquatesAll xs (map (equation_of a) qs) c d → AreRelated d e (filled xs (left_of (equation_of a q))) (filled xs (right_of (equation_of a q))) → EquatesAll xs (map (equation_of a) (qs ++ q ∷ [])) c e
equated_push a xs [] q c d e h r = (e, subst (λ z. AreRelated z e (filled xs (left_of (equation_of a q))) (filled xs (right_of (equation_of a q)))) h r, refl)
equated_push a xs (p ∷ qs) q c d e (m, x, rest) r = (m, x, equated_push a xs qs q m d e rest r)

failed_at : (a : List Tree) (xs : List Tree) (qs : List Equation) (i : ℕ) (x : Equation) (c d : Content) → i < length qs → EquatesAll xs (map (equation_of a) (take i qs)) c d → AreUnrelated d (filled xs (left_of (equation_of a (get_or qs i x)))) (filled xs (right_of (equation_of a (get_or qs i x)))) → FailsToEquate xs (map (equation_of a) qs) c
failed_at a xs [] i x c d l h r = absurd (omega arith)
failed_at a xs (q ∷ qs) zero x c d l h r = inl (subst (λ z. AreUnrelated z (filled xs (left_of (equation_of a q))) (filled xs (right_of (equation_of a q)))) h r)
failed_at a xs (q ∷ qs) (suc i) x c d l (m, e, rest) r = inr (m, e, failed_at a xs qs i x m d (omega (arith, l)) rest r)

-- the filled sides of an equation, in a store that has grown
sides_kept : (a b : List Tree) (vs : List NodeId) (q : Equation) (P : Tree → Tree → Type 0) → (equation_of b q ≡ equation_of a q) → P (instance_at b vs q.lhs.node) (instance_at b vs q.rhs.node) → P (filled (map (tree_at b) vs) (left_of (equation_of a q))) (filled (map (tree_at b) vs) (right_of (equation_of a q)))
sides_kept a b vs q P e h =
    let xs = map (tree_at b) vs in
    let left = left_is q.kind (tree_at b q.lhs.node) (tree_at b q.rhs.node) in
    let right = right_is q.kind (tree_at b q.lhs.node) (tree_at b q.rhs.node) in
    subst (λ z. P (filled xs (left_of z)) (filled xs (right_of z))) e (subst (λ z. P (filled xs z) (filled xs (right_of (equation_of b q)))) (sym left) (subst (λ z. P (instance_at b vs q.lhs.node) (filled xs z)) (sym right) h))

pub equated_first : {a b : List Tree} {t u : Table} (fresh : List Sort) (vs : List NodeId) → Freshens t.entries.universe fresh (map (tree_at b) vs) (content_of a t.entries) (content_of b u.entries) → EquatesCandidate a b t u fresh vs []
equated_first {a} {b} {t} {u} fresh vs h = record { made = content_of b u.entries; freshens = h; equates = refl }

pub equated_more : {a b e : List Tree} {t u v : Table} {ws : List NodeId} {rs : List Equation} {g : Goal} (q : Equation) (fresh : List Sort) (vs : List NodeId) (qs : List Equation) (i : ℕ) → ws ≡ vs → rs ≡ qs → i < length qs → Extends a b → Extends b e → AllIn b vs → IsEquation a fresh g (get_or qs i q) → EquatesCandidate a b t u fresh vs (take i qs)
    → AreRelated (content_of b u.entries) (content_of e v.entries) (instance_at b ws (get_or rs i q).lhs.node) (instance_at b ws (get_or rs i q).rhs.node) → EquatesCandidate a e t v fresh vs (take (i + 1) qs)
equated_more {a} {b} {e} {t} {u} {v} {ws} {rs} {g} q fresh vs qs i y z l x k w o h r =
    let item = get_or qs i q in
    let kept = equation-kept {a = a} {b = b} item x o.lhs.within o.rhs.within in
    let same = map-kept b e vs w k in
    let here : AreRelated (content_of b u.entries) (content_of e v.entries) (instance_at b vs item.lhs.node) (instance_at b vs item.rhs.node) = rw (y, z) at r in
    let one = sides_kept a b vs item (AreRelated (content_of b u.entries) (content_of e v.entries)) kept here in
    rw (take_more qs i q l)
    (record {
      made = h.made;
      freshens = rw same h.freshens;
      equates = rw same (equated_push a (map (tree_at b) vs) (take i qs) item h.made (content_of b u.entries) (content_of e v.entries) h.equates one);
    })

-- where the equations were made equal, some world of the table meets them
pub some_meets : {a b : List Tree} {t u : Table} {g : Goal} (fresh : List Sort) (vs : List NodeId) (qs : List Equation) → AreFormed a → IsPosed a t g → AreEquations a fresh g qs → IsTable b u → EquatesCandidate a b t u fresh vs qs → MeetsEquations (content_of a t.entries) fresh (map (equation_of a) qs)
some_meets {a} {b} {t} {u} {g} fresh vs qs f p all k h =
    met_when_equated fresh (map (equation_of a) qs) (map (tree_at b) vs) (content_of a t.entries) h.made (content_of b u.entries) h.freshens h.equates k.now.sound k.now.proper.solvable (equations_of_table a fresh g (content_of a t.entries) qs f p.knows all)

-- where an equation fails, no world of the table meets them all
pub none_meets : {a b : List Tree} {t u : Table} {ws : List NodeId} {rs : List Equation} {g : Goal} (q : Equation) (fresh : List Sort) (vs : List NodeId) (qs : List Equation) (i : ℕ) → ws ≡ vs → rs ≡ qs → i < length qs → Extends a b → AreFormed a → IsPosed a t g → AreEquations a fresh g qs → IsEquation a fresh g (get_or qs i q) → EquatesCandidate a b t u fresh vs (take i qs)
    → AreUnrelated (content_of b u.entries) (instance_at b ws (get_or rs i q).lhs.node) (instance_at b ws (get_or rs i q).rhs.node) → MeetsEquations (content_of a t.entries) fresh (map (equation_of a) qs) → ⊥
none_meets {a} {b} {t} {u} {ws} {rs} {g} q fresh vs qs i y z l x f p all o h r =
    let item = get_or qs i q in
    let c = content_of a t.entries in
    let xs = map (tree_at b) vs in
    let kept = equation-kept {a = a} {b = b} item x o.lhs.within o.rhs.within in
    let here : AreUnrelated (content_of b u.entries) (instance_at b vs item.lhs.node) (instance_at b vs item.rhs.node) = rw (y, z) at r in
    let one = sides_kept a b vs item (AreUnrelated (content_of b u.entries)) kept here in
    let terms = equations_of_table a fresh g c qs f p.knows all in
    let fails = failed_at a xs qs i q h.made (content_of b u.entries) l h.equates one in
    let known = fresh_known t.entries.universe fresh xs c h.made h.freshens in
    unmet_when_failed fresh (map (equation_of a) qs) xs c h.made (proper_content p.table) h.freshens fails (equations_known c h.made xs (map (equation_of a) qs) known.keeps known.known known.patches terms) terms
