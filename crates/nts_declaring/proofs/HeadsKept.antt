-- The heads of clauses stay as their traits are declared.
use Rattle.std.proofs.Common.{◌≡◌, ℕ, zero, suc, ◌==◌, Bool, true, false, if◌then◌else◌, List, [], ◌∷◌, ◌++◌, Some, Result, Ok, Err, All, map, slice_get, get_or, eqb-true, refl, sym, ap, subst, ◌∙◌}
use Rattle.std.proofs.lemmas.List.Elements.{All-nil, All-push}
use Rattle.std.specs.Prelude.{OnOk}
use Rattle.nts_model.specs.declared.labels.Sort.{Sort}
use Rattle.nts_store.specs.Growth.{Extends}
use Rattle.nts_store.proofs.Growing.{Extends-refl}
use Rattle.nts_terms.specs.declared.cx.Cx.{Cx}
use Rattle.nts_terms.specs.Rest.{Grows}
use Rattle.nts_terms.specs.Signatures.{Declared, with_ctor, with_trait, with_alias}
use Rattle.nts_terms.specs.declared.declarations.AliasKind.TheVariants.{Projection}
use Rattle.nts_text.specs.Resolution.{trait_sorts, alias_sorts}
use Rattle.nts_text.specs.declared.commands.Command.{Command}
use Rattle.nts_text.specs.declared.commands.Command.TheVariants as commands
use Rattle.nts_delegate.specs.Adding.{AddsClause}
use Rattle.nts_delegate.specs.Clauses.{clauses_of}
use Rattle.nts_delegate.specs.declared.clauses.Clause.{Clause}
use Rattle.nts_delegate.specs.declared.clauses.Clauses.{Clauses}
use Rattle.nts_wording.specs.Fitting.{HeadFits}
use Rattle.nts_wording.proofs.Fitted.{head_later}
use Rattle.nts_declaring.specs.declared.program.Program.{Program}
use Rattle.nts_declaring.specs.Declaring.{HasDeclared}
use Rattle.nts_declaring.specs.Heads.{HeadsFit}

-- no clauses
pub heads_none : (x : Cx) (h : Clauses) → ((i : ℕ) → clauses_of h i ≡ []) → HeadsFit x h
heads_none x h e = λ i. subst (All (HeadFits x.declarations x.nodes i)) (sym (e i)) (All-nil (HeadFits x.declarations x.nodes i))

get_front : {A : Type 0} (xs ys : List A) (i : ℕ) (x : A) → slice_get xs i ≡ Some x → slice_get (xs ++ ys) i ≡ Some x
get_front [] ys i x h = cc
get_front (y ∷ xs) ys zero x h = h
get_front (y ∷ xs) ys (suc i) x h = get_front xs ys i x h

-- traits stay as they are declared
abbrev KeepsTraits : Declared → Declared → Type 0
KeepsTraits d e = (i : ℕ) (ss : List Sort) → slice_get d.traits i ≡ Some ss → slice_get e.traits i ≡ Some ss

heads_later : (a b : Cx) (h k : Clauses) → KeepsTraits a.declarations b.declarations → Extends a.nodes b.nodes → ((i : ℕ) → clauses_of k i ≡ clauses_of h i) → HeadsFit a h → HeadsFit b k
heads_later a b h k kept up same f = λ i.
    subst (All (HeadFits b.declarations b.nodes i)) (sym (same i))
    (λ j d l. head_later a.declarations b.declarations a.nodes b.nodes i (get_or (clauses_of h i) j d) (kept i) up (f i j d l))

-- a store that grows
pub heads_grown : (a b : Cx) (h : Clauses) → Grows a b → HeadsFit a h → HeadsFit b h
heads_grown a b h g f = heads_later a b h h (λ i ss e. ap (λ d. slice_get d.traits i) g.rest.declarations ∙ e) g.extends (λ i. refl) f

pub heads_same : (a b : Cx) (h k : Clauses) → b ≡ a → k ≡ h → HeadsFit a h → HeadsFit b k
heads_same a b h k e c f = subst (λ x. HeadsFit x k) (sym e) (subst (HeadsFit a) (sym c) f)

-- more is declared
heads_beside : (old new : Program) (d : Declared) → new.cx ≡ record old.cx { declarations = d } → KeepsTraits old.cx.declarations d
    → ((i : ℕ) → clauses_of new.clauses i ≡ clauses_of old.clauses i) → HeadsFit old.cx old.clauses → HeadsFit new.cx new.clauses
heads_beside old new d is kept same f =
    let now : Cx = record old.cx { declarations = d } in
    subst (λ x. HeadsFit x new.clauses) (sym is) (heads_later old.cx now old.clauses new.clauses kept (Extends-refl old.cx.nodes) same f)

-- a clause more
heads_added : (a b : Cx) (h k : Clauses) (c : Clause) → AddsClause h k c → HeadFits b.declarations b.nodes c.trait_id.number c → Grows a b → HeadsFit a h → HeadsFit b k
heads_added a b h k c adds fits g f = λ i. subst (All (HeadFits b.declarations b.nodes i)) (sym (adds.clauses i)) (one_more i (i == c.trait_id.number) refl)
  where
    there : HeadsFit b h
    there = heads_grown a b h g f

    one_more : (i : ℕ) (w : Bool) → (i == c.trait_id.number) ≡ w → All (HeadFits b.declarations b.nodes i) (if w then clauses_of h i ++ c ∷ [] else clauses_of h i)
    one_more i true e =
        All-push (HeadFits b.declarations b.nodes i) (clauses_of h i) c (there i) (subst (λ j. HeadFits b.declarations b.nodes j c) (sym (eqb-true i c.trait_id.number e)) fits)
    one_more i false e = there i

-- what a command declares
pub heads_declared : (old new : Program) (command : Command) → HasDeclared old new command → HeadsFit old.cx old.clauses → HeadsFit new.cx new.clauses
heads_declared old new (commands.Mode m) f h = heads_same old.cx new.cx old.clauses new.clauses f.1 f.2 h
heads_declared old new (commands.Depth d) f h = heads_same (record old.cx { recursion_limit = d }) new.cx old.clauses new.clauses f.0 f.1.clauses h
heads_declared old new (commands.Type n params) f h =
    heads_beside old new (with_ctor old.cx.declarations (map (λ p. p.sort) params.items) (map (λ p. p.variance) params.items)) f.0 (λ i ss e. e) (λ i. ap (λ x. clauses_of x i) f.1.clauses) h
heads_declared old new (commands.Trait n true) f h =
    heads_beside old new (with_trait old.cx.declarations (trait_sorts new.names n)) f.0 (λ i ss e. get_front old.cx.declarations.traits (trait_sorts new.names n ∷ []) i ss e) f.1.clauses h
heads_declared old new (commands.Trait n false) f h =
    heads_beside old new (with_trait old.cx.declarations (trait_sorts new.names n)) f.0 (λ i ss e. get_front old.cx.declarations.traits (trait_sorts new.names n ∷ []) i ss e)
    (λ i. ap (λ x. clauses_of x i) f.1.clauses) h
heads_declared old new (commands.Impl head body) f h = heads_added old.cx new.cx old.clauses new.clauses f.0 f.1 f.3 f.4 h
heads_declared old new (commands.Alias n true) f h =
    heads_beside old new (with_alias old.cx.declarations (alias_sorts new.names n) Projection) f.0 (λ i ss e. e) f.1.clauses h
heads_declared old new (commands.Alias n false) f h =
    heads_beside old new (with_alias old.cx.declarations (alias_sorts new.names n) Projection) f.0 (λ i ss e. e) (λ i. ap (λ x. clauses_of x i) f.1.clauses) h
heads_declared old new (commands.Norm head body) f h =
    heads_later old.cx new.cx old.clauses new.clauses (λ i ss e. ap (λ d. slice_get d.traits i) f.3.rest.declarations ∙ e) f.3.extends f.1.clauses h
heads_declared old new (commands.Goal nodes) f h = heads_same old.cx new.cx old.clauses new.clauses f.0 f.1.clauses h
heads_declared old new (commands.Env nodes) f h = subst (HeadsFit new.cx) (sym f.2) (heads_grown old.cx new.cx old.clauses f.1 h)

pub on_declared : {T E : Type 0} (r : Result T E) (old new : Program) (command : Command) → OnOk r (HasDeclared old new command) → OnOk r (HeadsFit old.cx old.clauses → HeadsFit new.cx new.clauses)
on_declared (Ok x) old new command h = heads_declared old new command h
on_declared (Err x) old new command h = tt
