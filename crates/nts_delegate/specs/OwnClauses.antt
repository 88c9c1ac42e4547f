-- Clauses over their own terms: their equations and goals where leaves are replaced and values are put in.
use Rattle.std.proofs.Common.{◌≡◌, inl, inr, ℕ, false, List, [], ◌∷◌, map, refl, ap}
use Rattle.nts_model.specs.declared.labels.Sort.{Sort}
use Rattle.nts_model.specs.declared.labels.Leaf.{Leaf}
use Rattle.nts_model.specs.Terms.Trees.{Tree, empty, more, node, any_label, is_canonical, IsRow, IsClosed, IsFormed}
use Rattle.nts_model.specs.Terms.Scoping.{IsWellBound}
use Rattle.nts_model.specs.Terms.Substitutions.{replace, filled, filled_under}
use Rattle.nts_model.specs.Lists.{Among}
use Rattle.nts_model.specs.Derivations.Handlers.{equation_by, premise_by, NamesFresh}
use Rattle.nts_delegate.specs.Clauses.{is_foreign}
use Rattle.nts_delegate.specs.ClauseHandlers.{ClauseTree, ClausesOfTraits, equations_of, asked_in}
use Rattle.nts_delegate.specs.OwnTerms.{both_false, KeepsFixed, own_replace, own_filled_under, own_replace_filled, filled_nowhere}

-- a term over the variables of a clause alone
pub record IsOwnTerm (fresh : List Sort) (t : Tree) : Type 0 where
  pub names : NamesFresh fresh t
  pub own : any_label is_foreign t ≡ false
  pub formed : IsFormed t
  pub closed : IsClosed t
  pub well_bound : IsWellBound t

abbrev pub AreOwnTerms : List Sort → List Tree → Type 0
AreOwnTerms fresh [] = Unit {0}
AreOwnTerms fresh (p ∷ ps) = IsOwnTerm fresh p × AreOwnTerms fresh ps

pub record IsOwnClause (c : ClauseTree) : Type 0 where
  pub row : IsRow c.head
  pub head : IsOwnTerm c.fresh c.head
  pub body : AreOwnTerms c.fresh c.body

abbrev pub AreOwnClauses : List ClauseTree → Type 0
AreOwnClauses [] = Unit {0}
AreOwnClauses (c ∷ cs) = IsOwnClause c × AreOwnClauses cs

abbrev pub AreOwn : ClausesOfTraits → Type 0
AreOwn clauses = (i : ℕ) → AreOwnClauses (clauses i)

pub own_among : (cs : List ClauseTree) (c : ClauseTree) → AreOwnClauses cs → Among cs c → IsOwnClause c
own_among [] c h a = absurd a
own_among (d ∷ cs) c h (inl e) = rw e h.0
own_among (d ∷ cs) c h (inr a) = own_among cs c h.1 a

-- a first argument, and the rest
pub first_own : (fresh : List Sort) (a b : Tree) → IsOwnTerm fresh (more a b) → IsOwnTerm fresh a
first_own fresh a b h =
    record {
      names = h.names.0;
      own = (both_false (any_label is_foreign a) (any_label is_foreign b) h.own).0;
      formed = h.formed.0;
      closed = h.closed.0;
      well_bound = h.well_bound.0;
    }

pub rest_own : (fresh : List Sort) (a b : Tree) → IsOwnTerm fresh (more a b) → IsOwnTerm fresh b
rest_own fresh a b h =
    record {
      names = h.names.1;
      own = (both_false (any_label is_foreign a) (any_label is_foreign b) h.own).1;
      formed = h.formed.1;
      closed = h.closed.1;
      well_bound = h.well_bound.1;
    }

-- equations with the head's arguments as they stand
pub replaced_equations : (f : Leaf → Tree) → KeepsFixed f → (fresh : List Sort) (us hs : Tree) → IsRow us → IsOwnTerm fresh hs → map (equation_by (replace f)) (equations_of us hs) ≡ equations_of (replace f us) hs
replaced_equations f k fresh empty hs r o = refl
replaced_equations f k fresh (more a us) empty r o = refl
replaced_equations f k fresh (more a us) (more b hs) r o =
    let first = first_own fresh b hs o in
    let here : replace f b ≡ b = own_replace f k b first.own first.formed in
    let there = replaced_equations f k fresh us hs r (rest_own fresh b hs o) in
    cc (here, there)
replaced_equations f k fresh (more a us) (node l c) r o = refl
replaced_equations f k fresh (node l c) hs r o = absurd r

-- .. with the values put in
pub filled_equations : (f : Leaf → Tree) → KeepsFixed f → (vs : List Tree) (fresh : List Sort) (us hs : Tree) → IsRow us → any_label is_canonical us ≡ false → IsRow hs → IsOwnTerm fresh hs → map (equation_by (filled_under f vs)) (equations_of us hs) ≡ equations_of (replace f us) (filled vs hs)
filled_equations f k vs fresh empty hs r n w o = refl
filled_equations f k vs fresh (more a us) empty r n w o = refl
filled_equations f k vs fresh (more a us) (more b hs) r n w o =
    let s = both_false (any_label is_canonical a) (any_label is_canonical us) n in
    let first = first_own fresh b hs o in
    let here : filled_under f vs b ≡ filled vs b = own_filled_under f k vs b first.own first.formed in
    let there = filled_equations f k vs fresh us hs r s.1 w (rest_own fresh b hs o) in
    cc (filled_nowhere f vs a s.0, here, there)
filled_equations f k vs fresh (more a us) (node l c) r n w o = absurd w
filled_equations f k vs fresh (node l c) hs r n w o = absurd r

-- .. and then replaced
pub moved_equations : (f : Leaf → Tree) → KeepsFixed f → (vs : List Tree) (fresh : List Sort) (us hs : Tree) → IsRow us → IsRow hs → IsOwnTerm fresh hs → map (equation_by (replace f)) (equations_of us (filled vs hs)) ≡ equations_of (replace f us) (filled (map (replace f) vs) hs)
moved_equations f k vs fresh empty hs r w o = refl
moved_equations f k vs fresh (more a us) empty r w o = refl
moved_equations f k vs fresh (more a us) (more b hs) r w o =
    let first = first_own fresh b hs o in
    let here : replace f (filled vs b) ≡ filled (map (replace f) vs) b = own_replace_filled f k vs b first.own first.formed in
    let there = moved_equations f k vs fresh us hs r w (rest_own fresh b hs o) in
    cc (here, there)
moved_equations f k vs fresh (more a us) (node l c) r w o = absurd w
moved_equations f k vs fresh (node l c) hs r w o = absurd r

-- the goals of a body, likewise
pub replaced_goals : (f : Leaf → Tree) → KeepsFixed f → (fresh : List Sort) (e : Tree) (ps : List Tree) → AreOwnTerms fresh ps → map (premise_by (replace f)) (map (asked_in e) ps) ≡ map (asked_in (replace f e)) ps
replaced_goals f k fresh e [] o = refl
replaced_goals f k fresh e (p ∷ ps) o =
    let here : replace f p ≡ p = own_replace f k p o.0.own o.0.formed in
    let there = replaced_goals f k fresh e ps o.1 in
    cc (ap (asked_in (replace f e)) here, there)

pub filled_goals : (f : Leaf → Tree) → KeepsFixed f → (vs : List Tree) (fresh : List Sort) (e : Tree) (ps : List Tree) → any_label is_canonical e ≡ false → AreOwnTerms fresh ps → map (premise_by (filled_under f vs)) (map (asked_in e) ps) ≡ map (asked_in (replace f e)) (map (filled vs) ps)
filled_goals f k vs fresh e [] n o = refl
filled_goals f k vs fresh e (p ∷ ps) n o =
    let here : filled_under f vs p ≡ filled vs p = own_filled_under f k vs p o.0.own o.0.formed in
    let there = filled_goals f k vs fresh e ps n o.1 in
    cc (ap (λ x. asked_in x (filled_under f vs p)) (filled_nowhere f vs e n), ap (asked_in (replace f e)) here, there)

pub moved_goals : (f : Leaf → Tree) → KeepsFixed f → (vs : List Tree) (fresh : List Sort) (e : Tree) (ps : List Tree) → AreOwnTerms fresh ps → map (premise_by (replace f)) (map (asked_in e) (map (filled vs) ps)) ≡ map (asked_in (replace f e)) (map (filled (map (replace f) vs)) ps)
moved_goals f k vs fresh e [] o = refl
moved_goals f k vs fresh e (p ∷ ps) o =
    let here : replace f (filled vs p) ≡ filled (map (replace f) vs) p = own_replace_filled f k vs p o.0.own o.0.formed in
    let there = moved_goals f k vs fresh e ps o.1 in
    cc (ap (asked_in (replace f e)) here, there)
