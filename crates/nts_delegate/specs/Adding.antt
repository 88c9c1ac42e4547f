-- What changes in a handler made of clauses.
use Rattle.std.specs.Prelude.{◌≡◌, ◌≢◌, ℕ, ◌==◌, ◌||◌, true, [], ◌∷◌, ◌++◌, if◌then◌else◌}
use Rattle.nts_model.specs.declared.labels.AliasHead.{AliasHead}
use Rattle.nts_terms.specs.declared.handles.AliasDefId.{AliasDefId}
use Rattle.nts_terms.specs.Handles.{alias_head}
use Rattle.nts_delegate.specs.declared.alias_table.NormClause.{NormClause}
use Rattle.nts_delegate.specs.declared.clauses.Clause.{Clause}
use Rattle.nts_delegate.specs.declared.clauses.Clauses.{Clauses}
use Rattle.nts_delegate.specs.Clauses.{clauses_of, coinductive_of, SaidOfAlias, said_of}

-- each trait has the clauses that it had, and is as coinductive as it was; and of each alias is said what was said
pub record KeepsClauses (old new : Clauses) : Type 0 where
  pub clauses : (i : ℕ) → clauses_of new i ≡ clauses_of old i
  pub coinductive : (i : ℕ) → coinductive_of new i ≡ coinductive_of old i
  pub aliases : (a : AliasHead) → said_of new a ≡ said_of old a

-- one trait has one clause more, as its last
pub record AddsClause (old new : Clauses) (c : Clause) : Type 0 where
  pub clauses : (i : ℕ) → clauses_of new i ≡ (if i == c.trait_id.number then clauses_of old i ++ c ∷ [] else clauses_of old i)
  pub coinductive : (i : ℕ) → coinductive_of new i ≡ coinductive_of old i
  pub aliases : (a : AliasHead) → said_of new a ≡ said_of old a

-- one trait more is coinductive
pub record MakesCoinductive (old new : Clauses) (t : ℕ) : Type 0 where
  pub clauses : (i : ℕ) → clauses_of new i ≡ clauses_of old i
  pub coinductive : (i : ℕ) → coinductive_of new i ≡ (i == t || coinductive_of old i)
  pub aliases : (a : AliasHead) → said_of new a ≡ said_of old a

abbrev pub with_norm_clause : SaidOfAlias → NormClause → SaidOfAlias
with_norm_clause s c = record s { clauses = s.clauses ++ c ∷ [] }

abbrev pub made_rigid : SaidOfAlias → SaidOfAlias
made_rigid s = record s { is_rigid = true }

-- of one alias alone is said something else
pub record ChangesAlias (old new : Clauses) (a : AliasDefId) (said : SaidOfAlias) : Type 0 where
  pub clauses : (i : ℕ) → clauses_of new i ≡ clauses_of old i
  pub coinductive : (i : ℕ) → coinductive_of new i ≡ coinductive_of old i
  pub alias : said_of new (alias_head a) ≡ said
  pub others : (b : AliasHead) → b ≢ alias_head a → said_of new b ≡ said_of old b

-- one alias has one clause more, as its last
abbrev pub AddsNormClause : Clauses → Clauses → NormClause → Type 0
AddsNormClause old new c = ChangesAlias old new c.alias (with_norm_clause (said_of old (alias_head c.alias)) c)

-- one alias more is rigid
abbrev pub MakesRigid : Clauses → Clauses → AliasDefId → Type 0
MakesRigid old new a = ChangesAlias old new a (made_rigid (said_of old (alias_head a)))
