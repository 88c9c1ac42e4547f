-- How names and declarations stay in step.
use Rattle.std.proofs.Common.{◌≡◌, ℕ, zero, suc, Bool, true, false, List, [], ◌∷◌, ◌++◌, Option, Some, length, map, slice_get, refl, sym, ap, subst, ◌∙◌}
use Rattle.std.specs.Option.{option_map_or}
use Rattle.std.specs.Prelude.{vec_len}
use Rattle.std.proofs.lemmas.List.{map-append, length-map}
use Rattle.nts_model.specs.declared.labels.Sort.{Sort}
use Rattle.nts_model.specs.declared.labels.Variance.{Variance}
use Rattle.nts_terms.specs.Signatures.{with_ctor, with_trait, with_alias}
use Rattle.nts_terms.specs.declared.declarations.AliasKind.TheVariants.{Projection}
use Rattle.nts_text.specs.Commands.{IsMeant, Declares}
use Rattle.nts_text.specs.Lines.{bytes_of}
use Rattle.nts_text.specs.NameTable.{declared_as, signatures, AddsType, AddsTrait, AddsAlias}
use Rattle.nts_text.specs.Resolution.{trait_sorts, alias_sorts}
use Rattle.nts_text.specs.declared.commands.Command.{Command}
use Rattle.nts_text.specs.declared.commands.Command.TheVariants as commands
use Rattle.nts_text.specs.declared.names.Declared.{Declared}
use Rattle.nts_text.specs.declared.names.Declared.TheVariants as declared
use Rattle.nts_text.specs.declared.names.Signature.{Signature}
use Rattle.nts_text.specs.declared.parser.Line.{Line}
use Rattle.nts_text.specs.declared.parser.Line.TheVariants as lines
use Rattle.nts_declaring.specs.declared.program.Program.{Program}
use Rattle.nts_declaring.specs.Declaring.{HasDeclared, IsInStep}

abbrev sorts_in : List Signature → List (List Sort)
sorts_in ss = map (λ s. s.sorts.items) ss

listed_sorts : (ss : List Signature) → map (λ s. s.1) (signatures ss) ≡ sorts_in ss
listed_sorts [] = refl
listed_sorts (s ∷ ss) = ap (λ xs. s.sorts.items ∷ xs) (listed_sorts ss)

-- the sorts of one name more
sorts_more : (old new : List Signature) (name : List ℕ) (sorts : List Sort) → signatures new ≡ signatures old ++ (name, sorts) ∷ [] → sorts_in new ≡ sorts_in old ++ sorts ∷ []
sorts_more old new name sorts h =
    sym (listed_sorts new) ∙ ap (map (λ s. s.1)) h ∙ map-append (λ s. s.1) (signatures old) ((name, sorts) ∷ []) ∙ ap (λ xs. xs ++ sorts ∷ []) (listed_sorts old)

-- those of the last name
sorts_at : (ss : List Signature) (before : List (List Sort)) (sorts : List Sort) (n : ℕ) → sorts_in ss ≡ before ++ sorts ∷ [] → n ≡ length before → option_map_or (λ s. s.sorts.items) (slice_get ss n) [] ≡ sorts
sorts_at [] [] sorts n h e = cc
sorts_at [] (b ∷ bs) sorts n h e = cc
sorts_at (s ∷ ss) [] sorts zero h e = cc
sorts_at (s ∷ ss) [] sorts (suc n) h e = cc
sorts_at (s ∷ ss) (b ∷ bs) sorts zero h e = cc
sorts_at (s ∷ ss) (b ∷ bs) sorts (suc n) h e =
    let rest : sorts_in ss ≡ bs ++ sorts ∷ [] = cc in
    let same : n ≡ length bs = cc in
    sorts_at ss bs sorts n rest same

-- nothing is declared
pub step_same : (old new : Program) → new.names ≡ old.names → new.cx.declarations ≡ old.cx.declarations → IsInStep old → IsInStep new
step_same old new names rest h = record {
  types = ap (λ t. sorts_in t.types.items) names ∙ h.types ∙ sym (ap (λ d. map (λ c. c.sorts) d.ctors) rest);
  traits = ap (λ t. sorts_in t.traits.items) names ∙ h.traits ∙ sym (ap (λ d. d.traits) rest);
  aliases = ap (λ t. sorts_in t.aliases.items) names ∙ h.aliases ∙ sym (ap (λ d. map (λ a. a.sorts) d.aliases) rest);
}

same_trait : (o : Option Declared) (n m : ℕ) → o ≡ Some (declared.Trait n) → o ≡ Some (declared.Trait m) → n ≡ m
same_trait o n m h k = let e : Some (declared.Trait n) ≡ Some (declared.Trait m) = sym h ∙ k in cc

step_type : (old new : Program) (name : List ℕ) (sorts : List Sort) (variances : List Variance) → AddsType old.names new.names name sorts
    → new.cx ≡ record old.cx { declarations = with_ctor old.cx.declarations sorts variances } → IsInStep old → IsInStep new
step_type old new name sorts variances adds cx h = record {
  types = sorts_more old.names.types.items new.names.types.items name sorts adds.listed ∙ ap (λ xs. xs ++ sorts ∷ []) h.types
      ∙ sym (map-append (λ c. c.sorts) old.cx.declarations.ctors (record { sorts = sorts; variances = variances } ∷ [])) ∙ sym (ap (λ c. map (λ d. d.sorts) c.declarations.ctors) cx);
  traits = ap (λ v. sorts_in v.items) adds.traits ∙ h.traits ∙ sym (ap (λ c. c.declarations.traits) cx);
  aliases = ap (λ v. sorts_in v.items) adds.aliases ∙ h.aliases ∙ sym (ap (λ c. map (λ d. d.sorts) c.declarations.aliases) cx);
}

step_trait : (old new : Program) (name : List ℕ) (sorts : List Sort) (n : ℕ) → AddsTrait old.names new.names name sorts → declared_as new.names name ≡ Some (declared.Trait n)
    → new.cx ≡ record old.cx { declarations = with_trait old.cx.declarations (trait_sorts new.names n) } → IsInStep old → IsInStep new
step_trait old new name sorts n adds named cx h =
    let listed = sorts_more old.names.traits.items new.names.traits.items name sorts adds.listed in
    let number : n ≡ length (sorts_in old.names.traits.items) =
    same_trait (declared_as new.names name) n (vec_len old.names.traits) named adds.named ∙ old.names.traits.ok.0 ∙ sym (length-map old.names.traits.items (λ s. s.sorts.items)) in
    let own : trait_sorts new.names n ≡ sorts = sorts_at new.names.traits.items (sorts_in old.names.traits.items) sorts n listed number in
    record {
      types = ap (λ v. sorts_in v.items) adds.types ∙ h.types ∙ sym (ap (λ c. map (λ d. d.sorts) c.declarations.ctors) cx);
      traits = listed ∙ ap (λ xs. xs ++ sorts ∷ []) h.traits ∙ ap (λ s. old.cx.declarations.traits ++ s ∷ []) (sym own) ∙ sym (ap (λ c. c.declarations.traits) cx);
      aliases = ap (λ v. sorts_in v.items) adds.aliases ∙ h.aliases ∙ sym (ap (λ c. map (λ d. d.sorts) c.declarations.aliases) cx);
    }

same_alias : (o : Option Declared) (n m : ℕ) (a b : Bool) → o ≡ Some (declared.Alias n a) → o ≡ Some (declared.Alias m b) → n ≡ m
same_alias o n m a b h k = let e : Some (declared.Alias n a) ≡ Some (declared.Alias m b) = sym h ∙ k in cc

step_alias : (old new : Program) (name : List ℕ) (sorts : List Sort) (n : ℕ) (rigid : Bool) → AddsAlias old.names new.names name sorts rigid → declared_as new.names name ≡ Some (declared.Alias n rigid)
    → new.cx ≡ record old.cx { declarations = with_alias old.cx.declarations (alias_sorts new.names n) Projection } → IsInStep old → IsInStep new
step_alias old new name sorts n rigid adds named cx h =
    let listed = sorts_more old.names.aliases.items new.names.aliases.items name sorts adds.listed in
    let number : n ≡ length (sorts_in old.names.aliases.items) =
    same_alias (declared_as new.names name) n (vec_len old.names.aliases) rigid rigid named adds.named ∙ old.names.aliases.ok.0 ∙ sym (length-map old.names.aliases.items (λ s. s.sorts.items)) in
    let own : alias_sorts new.names n ≡ sorts = sorts_at new.names.aliases.items (sorts_in old.names.aliases.items) sorts n listed number in
    record {
      types = ap (λ v. sorts_in v.items) adds.types ∙ h.types ∙ sym (ap (λ c. map (λ d. d.sorts) c.declarations.ctors) cx);
      traits = ap (λ v. sorts_in v.items) adds.traits ∙ h.traits ∙ sym (ap (λ c. c.declarations.traits) cx);
      aliases = listed ∙ ap (λ xs. xs ++ sorts ∷ []) h.aliases ∙ ap (λ s. map (λ d. d.sorts) old.cx.declarations.aliases ++ s ∷ []) (sym own)
          ∙ sym (map-append (λ d. d.sorts) old.cx.declarations.aliases (record { sorts = alias_sorts new.names n; kind = Projection } ∷ [])) ∙ sym (ap (λ c. map (λ d. d.sorts) c.declarations.aliases) cx);
    }

-- by what the line says
pub step_line : (line : List ℕ) (old new : Program) (parsed : Line) (command : Command) → Declares line old.names new.names parsed → IsMeant new.names new.scope line parsed command
    → HasDeclared old new command → IsInStep old → IsInStep new
step_line line old new (lines.Mode m) (commands.Mode n) d s f h = step_same old new d (ap (λ c. c.declarations) f.1) h
step_line line old new (lines.Depth m) (commands.Depth n) d s f h = step_same old new d (ap (λ c. c.declarations) f.0) h
step_line line old new (lines.Type name params) (commands.Type n given) d s f h =
    step_type old new (bytes_of line name) (map (λ p. p.sort) params.items) (map (λ p. p.variance) params.items) d
    (f.0 ∙ ap (λ ps. record old.cx { declarations = with_ctor old.cx.declarations (map (λ p. p.sort) ps.items) (map (λ p. p.variance) ps.items) }) s.1) h
step_line line old new (lines.Trait name sorts w) (commands.Trait n true) d s f h = step_trait old new (bytes_of line name) sorts.items n d s.0 f.0 h
step_line line old new (lines.Trait name sorts w) (commands.Trait n false) d s f h = step_trait old new (bytes_of line name) sorts.items n d s.0 f.0 h
step_line line old new (lines.Impl a b) (commands.Impl head body) d s f h = step_same old new d f.4.rest.declarations h
step_line line old new (lines.Alias name sorts w) (commands.Alias n true) d s f h =
    step_alias old new (bytes_of line name) sorts.items n true (subst (AddsAlias old.names new.names (bytes_of line name) sorts.items) (sym s.1) d) (s.0 ∙ ap (λ b. Some (declared.Alias n b)) (sym s.1)) f.0 h
step_line line old new (lines.Alias name sorts w) (commands.Alias n false) d s f h =
    step_alias old new (bytes_of line name) sorts.items n false (subst (AddsAlias old.names new.names (bytes_of line name) sorts.items) (sym s.1) d) (s.0 ∙ ap (λ b. Some (declared.Alias n b)) (sym s.1)) f.0 h
step_line line old new (lines.Norm a b) (commands.Norm head body) d s f h = step_same old new d f.3.rest.declarations h
step_line line old new (lines.Goal ns) (commands.Goal nodes) d s f h = step_same old new d (ap (λ c. c.declarations) f.0) h
step_line line old new (lines.Env ns) (commands.Env nodes) d s f h = step_same old new d f.1.rest.declarations h
step_line line old new _ _ d s f h = absurd s
