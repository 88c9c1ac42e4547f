-- What the lines of a run have said, and what they declare.
use Rattle.std.specs.Prelude.{◌≡◌, ℕ, true, false, List, [], length, map, None, Some}
use Rattle.nts_model.specs.declared.labels.Sort.{Sort}
use Rattle.nts_terms.specs.declared.cx.Cx.{Cx}
use Rattle.nts_terms.specs.declared.handles.ParamEnv.{ParamEnv}
use Rattle.nts_terms.specs.Rest.{Grows}
use Rattle.nts_terms.specs.Signatures.{nothing_declared, with_ctor, with_trait, with_alias}
use Rattle.nts_terms.specs.declared.declarations.AliasKind.TheVariants.{Projection}
use Rattle.nts_terms.specs.declared.handles.AliasDefId.{AliasDefId}
use Rattle.nts_terms.specs.declared.handles.AliasDefId.TheVariants as alias_def
use Rattle.nts_delegate.specs.Adding.{AddsClause, AddsNormClause, MakesCoinductive, MakesRigid}
use Rattle.nts_delegate.specs.Clauses.{clauses_of, coinductive_of, SaysNothingOfAliases}
use Rattle.nts_delegate.specs.declared.alias_table.NormClause.{NormClause}
use Rattle.nts_delegate.specs.declared.clauses.Clause.{Clause}
use Rattle.nts_text.specs.NameTable.{declared_as}
use Rattle.nts_text.specs.Resolution.{trait_sorts, alias_sorts}
use Rattle.nts_text.specs.Spelled.{type_names, region_names}
use Rattle.nts_text.specs.declared.commands.Command.{Command}
use Rattle.nts_text.specs.declared.commands.Command.TheVariants as commands
use Rattle.nts_text.specs.declared.parser.Mode.TheVariants as modes
use Rattle.nts_text.specs.declared.parser.Param.{Param}
use Rattle.nts_text.specs.declared.resolver.Resolved.{Resolved}
use Rattle.nts_declaring.specs.declared.program.Program.{Program}
use Rattle.nts_wording.specs.Fitting.{HeadFits}
use Rattle.nts_wording.specs.Meaning.{IsRuleOf, IsNormRuleOf, IsEnvironmentFor}

-- a program that was told nothing: there are no terms, declarations, rules, names or parameters, and
-- the depth is 128 and the mode analysis
pub record IsNewProgram (p : Program) : Type 0 where
  pub nodes : p.cx.nodes ≡ []
  pub declarations : p.cx.declarations ≡ nothing_declared
  pub depth : p.cx.recursion_limit ≡ 128
  pub steps : p.cx.step_limit ≡ 8
  pub rounds : p.cx.round_limit ≡ 8
  pub division : p.cx.depth_division ≡ 4
  pub fast_paths : p.cx.disable_fast_paths ≡ false
  pub clauses : (i : ℕ) → clauses_of p.clauses i ≡ []
  pub coinductive : (i : ℕ) → coinductive_of p.clauses i ≡ false
  pub aliases : SaysNothingOfAliases p.clauses
  pub names : (name : List ℕ) → declared_as p.names name ≡ None
  pub types : type_names p.scope.parameters ≡ []
  pub regions : region_names p.scope.parameters ≡ []
  pub mode : p.mode ≡ modes.Analysis
  pub env : p.env ≡ None

-- names and declarations are in step: the types, traits and aliases that have names are those of the store,
-- in order, with their sorts
pub record IsInStep (p : Program) : Type 0 where
  pub types : map (λ s. s.sorts.items) p.names.types.items ≡ map (λ d. d.sorts) p.cx.declarations.ctors
  pub traits : map (λ s. s.sorts.items) p.names.traits.items ≡ p.cx.declarations.traits
  pub aliases : map (λ s. s.sorts.items) p.names.aliases.items ≡ map (λ d. d.sorts) p.cx.declarations.aliases

-- the rules, the mode and the environment stay
pub record KeepsRules (old new : Program) : Type 0 where
  pub clauses : new.clauses ≡ old.clauses
  pub mode : new.mode ≡ old.mode
  pub env : new.env ≡ old.env

-- the environment is that of the predicates that the nodes say
abbrev pub AssumesNodes : List Resolved → Program → Type 0
AssumesNodes rs new = (e : ParamEnv) × (new.env ≡ Some e) × IsEnvironmentFor new.cx.nodes rs e

-- a type is declared with these parameters, and a trait over these sorts: nothing else of the store changes
abbrev pub DeclaresType : List Param → Cx → Cx → Type 0
DeclaresType params old new =
    new ≡ record old { declarations = with_ctor old.declarations (map (λ p. p.sort) params) (map (λ p. p.variance) params) }

abbrev pub DeclaresTrait : List Sort → Cx → Cx → Type 0
DeclaresTrait sorts old new = new ≡ record old { declarations = with_trait old.declarations sorts }

-- an alias is declared over these sorts, as one that stands for what its clauses say
abbrev pub DeclaresAlias : List Sort → Cx → Cx → Type 0
DeclaresAlias sorts old new = new ≡ record old { declarations = with_alias old.declarations sorts Projection }

-- the alias of types that is declared next
abbrev pub next_alias : Cx → AliasDefId
next_alias cx = alias_def.Ty (record { number = length cx.declarations.aliases })

-- what a command changes: a goal declares nothing
abbrev pub HasDeclared : Program → Program → Command → Type 0
HasDeclared old new (commands.Mode m) = (new.mode ≡ m) × (new.cx ≡ old.cx) × (new.clauses ≡ old.clauses) × (new.env ≡ old.env)
HasDeclared old new (commands.Depth d) = (new.cx ≡ record old.cx { recursion_limit = d }) × KeepsRules old new
HasDeclared old new (commands.Type n params) = DeclaresType params.items old.cx new.cx × KeepsRules old new
HasDeclared old new (commands.Trait n true) =
    DeclaresTrait (trait_sorts new.names n) old.cx new.cx × MakesCoinductive old.clauses new.clauses (length old.cx.declarations.traits) × (new.mode ≡ old.mode) × (new.env ≡ old.env)
HasDeclared old new (commands.Trait n false) = DeclaresTrait (trait_sorts new.names n) old.cx new.cx × KeepsRules old new
HasDeclared old new (commands.Impl head body) =
    (c : Clause) × AddsClause old.clauses new.clauses c × IsRuleOf new.cx.nodes head.items body.items c
    × HeadFits new.cx.declarations new.cx.nodes c.trait_id.number c × Grows old.cx new.cx × (new.mode ≡ old.mode) × (new.env ≡ old.env)
HasDeclared old new (commands.Alias n true) =
    DeclaresAlias (alias_sorts new.names n) old.cx new.cx × MakesRigid old.clauses new.clauses (next_alias old.cx) × (new.mode ≡ old.mode) × (new.env ≡ old.env)
HasDeclared old new (commands.Alias n false) = DeclaresAlias (alias_sorts new.names n) old.cx new.cx × KeepsRules old new
HasDeclared old new (commands.Norm head body) =
    (c : NormClause) × AddsNormClause old.clauses new.clauses c × IsNormRuleOf new.cx.nodes head.items body.items c
    × Grows old.cx new.cx × (new.mode ≡ old.mode) × (new.env ≡ old.env)
HasDeclared old new (commands.Goal nodes) = (new.cx ≡ old.cx) × KeepsRules old new
HasDeclared old new (commands.Env nodes) = AssumesNodes nodes.items new × Grows old.cx new.cx × (new.clauses ≡ old.clauses) × (new.mode ≡ old.mode)
