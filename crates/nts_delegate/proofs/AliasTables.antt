-- What is said of an alias, by its place in a table.
use Rattle.std.proofs.Common.{◌≡◌, ◌≢◌, ◌⊎◌, inl, inr, ℕ, zero, suc, ◌<◌, ◌==◌, Bool, true, false, if◌then◌else◌, List, [], ◌∷◌, ◌++◌, length, get_or, Some, eqb-true, eq-eqb, refl, ap, sym, subst, ◌∙◌, arith}
use Rattle.std.specs.Prelude.{slice_get, Result, Ok, Err, IfOk, OnErr}
use Rattle.nts_model.specs.declared.labels.AliasHead.{AliasHead}
use Rattle.nts_model.specs.declared.labels.AliasHead.TheVariants as alias_of
use Rattle.nts_model.specs.Terms.Trees.{Tree}
use Rattle.nts_store.specs.declared.fault.Fault.{Fault}
use Rattle.std.proofs.lemmas.List.{nil_from_length}
use Rattle.nts_delegate.specs.declared.alias_table.NormClause.{NormClause}
use Rattle.nts_delegate.specs.declared.alias_table.AliasRules.{AliasRules}
use Rattle.nts_delegate.specs.declared.alias_table.AliasTable.{AliasTable}
use Rattle.nts_delegate.specs.Adding.{with_norm_clause, made_rigid}
use Rattle.nts_delegate.specs.Clauses.{HoldsNormClause, AreNormClauses, SaidOfAlias, said_in, said_at}

said_here : (rs : List AliasRules) (i : ℕ) (d : AliasRules) → i < length rs → d ≡ get_or rs i d → said_in (slice_get rs i) ≡ said_in (Some d)
said_here [] i d h is = absurd (omega arith)
said_here (r ∷ rs) zero d h is = ap (λ x. said_in (Some x)) (sym is)
said_here (r ∷ rs) (suc i) d h is = said_here rs i d (omega arith) is

-- an entry without clauses says of none
pub none_said : (rs : List AliasRules) (i n : ℕ) (d : AliasRules) (s : SaidOfAlias) → i < length rs → d ≡ get_or rs i d → said_in (slice_get rs i) ≡ s → length d.clauses.items ≡ n → (n == 0) ≡ true → s.clauses ≡ []
none_said rs i n d s h is same long e =
    sym (ap (λ x. x.clauses) same) ∙ ap (λ x. x.clauses) (said_here rs i d h is) ∙ nil_from_length d.clauses.items (long ∙ eqb-true n 0 e)

-- two numbers, and two aliases, are one or not
same_number : (i j : ℕ) → (i ≡ j) ⊎ (i ≢ j)
same_number i j = by_case (i == j) refl
  where
    by_case : (w : Bool) → (i == j) ≡ w → (i ≡ j) ⊎ (i ≢ j)
    by_case true e = inl (eqb-true i j e)
    by_case false e = inr (λ p. let t : (i == j) ≡ true = eq-eqb i j p in cc)

one_alias : (a b : AliasHead) → (a ≡ b) ⊎ (a ≢ b)
one_alias (alias_of.Ty i) (alias_of.Ty j) =
    elim (same_number i j) [
      | inl e ↦ inl (ap alias_of.Ty e)
      | inr n ↦ inr (λ e. n cc)
    ]
one_alias (alias_of.Const i) (alias_of.Const j) =
    elim (same_number i j) [
      | inl e ↦ inl (ap alias_of.Const e)
      | inr n ↦ inr (λ e. n cc)
    ]
one_alias (alias_of.Ty i) (alias_of.Const j) = inr (λ e. cc)
one_alias (alias_of.Const i) (alias_of.Ty j) = inr (λ e. cc)

-- the clauses of each alias stay of the store where those of one do
abbrev AllHeld : List Tree → AliasTable → Type 0
AllHeld ts t = (a : AliasHead) → AreNormClauses ts (said_at t a).clauses

held_by : (ts : List Tree) (old new : AliasTable) (h : AliasHead) → ((a : AliasHead) → a ≢ h → said_at new a ≡ said_at old a) → AllHeld ts old → AreNormClauses ts (said_at new h).clauses → AllHeld ts new
held_by ts old new h others all here a =
    elim (one_alias a h) [
      | inl e ↦ subst (λ x. AreNormClauses ts (said_at new x).clauses) (sym e) here
      | inr n ↦ subst (λ x. AreNormClauses ts x.clauses) (sym (others a n)) (all a)
    ]

norm_push : (ts : List Tree) (cs : List NormClause) (c : NormClause) → AreNormClauses ts cs → HoldsNormClause ts c → AreNormClauses ts (cs ++ c ∷ [])
norm_push ts [] c h k = (k, tt)
norm_push ts (x ∷ cs) c h k = (h.0, norm_push ts cs c h.1 k)

added_held : (ts : List Tree) (s : SaidOfAlias) (c : NormClause) (b : Bool) → AreNormClauses ts s.clauses → HoldsNormClause ts c → AreNormClauses ts (if b then with_norm_clause s c else s).clauses
added_held ts s c true h k = norm_push ts s.clauses c h k
added_held ts s c false h k = h

rigid_held : (ts : List Tree) (s : SaidOfAlias) (b : Bool) → AreNormClauses ts s.clauses → AreNormClauses ts (if b then made_rigid s else s).clauses
rigid_held ts s true h = h
rigid_held ts s false h = h

pub held_added : (ts : List Tree) (old new : AliasTable) (h : AliasHead) (c : NormClause) (r : Result Bool Fault) → IfOk r (λ b. said_at new h ≡ (if b then with_norm_clause (said_at old h) c else said_at old h))
    → OnErr r ((a : AliasHead) → said_at new a ≡ said_at old a) → ((a : AliasHead) → a ≢ h → said_at new a ≡ said_at old a) → AllHeld ts old → HoldsNormClause ts c → AllHeld ts new
held_added ts old new h c (Ok b) said err others all k =
    held_by ts old new h others all (subst (λ x. AreNormClauses ts x.clauses) (sym said) (added_held ts (said_at old h) c b (all h) k))
held_added ts old new h c (Err e) said err others all k = λ a. subst (λ x. AreNormClauses ts x.clauses) (sym (err a)) (all a)

pub held_rigid : (ts : List Tree) (old new : AliasTable) (h : AliasHead) (r : Result Bool Fault) → IfOk r (λ b. said_at new h ≡ (if b then made_rigid (said_at old h) else said_at old h))
    → OnErr r ((a : AliasHead) → said_at new a ≡ said_at old a) → ((a : AliasHead) → a ≢ h → said_at new a ≡ said_at old a) → AllHeld ts old → AllHeld ts new
held_rigid ts old new h (Ok b) said err others all =
    held_by ts old new h others all (subst (λ x. AreNormClauses ts x.clauses) (sym said) (rigid_held ts (said_at old h) b (all h)))
held_rigid ts old new h (Err e) said err others all = λ a. subst (λ x. AreNormClauses ts x.clauses) (sym (err a)) (all a)
