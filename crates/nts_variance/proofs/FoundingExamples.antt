-- A variable that is made for an older one, and one that is not, over tables of the type variables ?a and ?b.
use Rattle.std.proofs.Common.{◌≡◌, ℕ, zero, suc, ◌≤◌, [], ◌∷◌, Option, Some, None, false, refl, sym, ap, ◌∙◌, arith}
use Rattle.nts_model.specs.declared.labels.VariableKind.{VariableKind}
use Rattle.nts_model.specs.declared.labels.VariableKind.TheVariants as kind
use Rattle.nts_model.specs.declared.labels.AliasHead.TheVariants as alias_of
use Rattle.nts_model.specs.Terms.Trees.{Tree, empty, label_of, variable_tree}
use Rattle.nts_model.specs.Tables.Contents.{Content, unset, kind_at, sub_link_of}
use Rattle.nts_model.specs.Tables.Resolving.{deeply_resolved}
use Rattle.nts_model.specs.Tables.SubUnifying.{SharesSubRoot, itself, linked, turned, through}
use Rattle.nts_model.specs.Derivations.Related.{constructor, alias}
use Rattle.nts_variance_model.specs.Variances.Relations.{Relating}
use Rattle.nts_model.specs.declared.labels.Variance.TheVariants as variance
use Rattle.nts_variance.specs.Plain.{ArePairsPlain, AreTreesPlain, AreStepsPlain, StaysPlain}
use Rattle.nts_variance.specs.Steps.{enter, build, owe}
use Rattle.nts_variance_model.specs.Variances.Forms.{a_constructor, an_alias}
use Rattle.nts_variance.proofs.PlainTerms.{stays_none}
use Rattle.nts_variance.specs.SubRoots.{AreAkin, shared, one, by_way, FoundsVariables}

-- List, an alias, and the two type variables
abbrev list_type : Tree
list_type = constructor 1 empty

abbrev item : Tree
item = alias (alias_of.Ty 0) empty

-- the table of ?a alone, and those of both, in which a link of sub-unification leads from ?b to ?a, or none does
abbrev only_a : Content
only_a = record { slots = record { kind = kind.Ty; universe = 0; state = unset; sub_link = None } ∷ []; order = []; universe = 0; constraints = [] }

abbrev with_b : Option ℕ → Content
with_b joined = record {
  slots = record { kind = kind.Ty; universe = 0; state = unset; sub_link = None } ∷ record { kind = kind.Ty; universe = 0; state = unset; sub_link = joined } ∷ [];
  order = [];
  universe = 0;
  constraints = [];
}

-- ?b is akin to ?a where it was made in the class of ?a
b_is_akin : AreAkin (with_b (Some 0)) 1 0
b_is_akin = shared (linked refl)

-- .. and so a table with ?b besides was made from the one of ?a
b_is_founded : FoundsVariables only_a (with_b (Some 0))
b_is_founded = record { founded = λ n k new has fits. (0, of_kind n k new has, akin n k new has) }
  where
    of_kind : (n : ℕ) (k : VariableKind) → 1 ≤ n → kind_at (with_b (Some 0)) n ≡ Some k → kind_at only_a 0 ≡ Some k
    of_kind zero k new has = absurd (omega (arith, new))
    of_kind (suc zero) k new has = has
    of_kind (suc (suc n)) k new has = cc has

    akin : (n : ℕ) (k : VariableKind) → 1 ≤ n → kind_at (with_b (Some 0)) n ≡ Some k → AreAkin (with_b (Some 0)) n 0
    akin zero k new has = absurd (omega (arith, new))
    akin (suc zero) k new has = b_is_akin
    akin (suc (suc n)) k new has = cc has

-- where no link leads from one to another, each variable is akin to itself alone
alone_is_akin : {n m : ℕ} → AreAkin (with_b None) n m → n ≡ m
alone_is_akin (shared h) = one_class h
  where
    no_link : (n m : ℕ) → sub_link_of (with_b None) n ≡ Some (Some m) → ⊥
    no_link zero m e = cc e
    no_link (suc zero) m e = cc e
    no_link (suc (suc n)) m e = cc e

    one_class : {n m : ℕ} → SharesSubRoot (with_b None) n m → n ≡ m
    one_class itself = refl
    one_class (linked {n} {m} e) = absurd (no_link n m e)
    one_class (turned h) = sym (one_class h)
    one_class (through h k) = one_class h ∙ one_class k
alone_is_akin (one {n = n} {m = m} {k = j} h k e) = of_both n m j h k (ap label_of e)
  where
    of_both : (n m : ℕ) (j : VariableKind) → kind_at (with_b None) n ≡ Some j → kind_at (with_b None) m ≡ Some j → label_of (deeply_resolved (with_b None) (variable_tree j n)) ≡ label_of (deeply_resolved (with_b None) (variable_tree j m)) → n ≡ m
    of_both zero zero j h k e = refl
    of_both (suc zero) (suc zero) j h k e = refl
    of_both zero (suc zero) kind.Ty h k e = cc e
    of_both zero (suc zero) j h k e = cc h
    of_both (suc zero) zero kind.Ty h k e = cc e
    of_both (suc zero) zero j h k e = cc h
    of_both zero (suc (suc m)) j h k e = cc k
    of_both (suc zero) (suc (suc m)) j h k e = cc k
    of_both (suc (suc n)) m j h k e = cc h
alone_is_akin (by_way h k) = alone_is_akin h ∙ alone_is_akin k

-- so ?b was made for no variable of the table of ?a where it joins no class
b_alone_is_not_founded : FoundsVariables only_a (with_b None) → ⊥
b_alone_is_not_founded f = (let x = f.founded 1 kind.Ty (omega arith) refl (λ e. cc e) in let same : 1 ≡ x.0 = alone_is_akin x.2 in none x.0 same x.1)
  where
    none : (m : ℕ) → 1 ≡ m → kind_at only_a m ≡ Some kind.Ty → ⊥
    none zero e h = cc e
    none (suc m) e h = cc h

-- no alias stands in List and List, and one stands in List and an alias
abbrev beside : Tree → Tree → Relating
beside a b = record { variance = variance.Covariant; left = a; right = b }

lists_are_plain : ArePairsPlain only_a (beside list_type list_type ∷ [])
lists_are_plain = ((refl, refl), tt)

alias_is_not_plain : ArePairsPlain only_a (beside list_type item ∷ []) → ⊥
alias_is_not_plain h = (let sides = h.0 in let e = sides.1 in cc e)

-- .. nor to enter an alias, or to build a node that is one
lists_are_plain_steps : AreStepsPlain only_a (enter variance.Covariant false list_type ∷ build (a_constructor 1) 0 ∷ owe variance.Covariant item ∷ [])
lists_are_plain_steps = (refl, (refl, tt))

alias_is_no_plain_step : AreStepsPlain only_a (enter variance.Covariant false item ∷ []) → ⊥
alias_is_no_plain_step h = (let e = h.0 in cc e)

alias_is_not_built : AreStepsPlain only_a (build (an_alias (alias_of.Ty 0)) 0 ∷ []) → ⊥
alias_is_not_built h = (let e = h.0 in cc e)

list_is_a_plain_tree : AreTreesPlain only_a (list_type ∷ [])
list_is_a_plain_tree = (refl, tt)

alias_is_no_plain_tree : AreTreesPlain only_a (item ∷ []) → ⊥
alias_is_no_plain_tree h = (let e = h.0 in cc e)

-- a table stays plain as it is, and not where ?b is made for no variable of it
same_stays_plain : StaysPlain only_a only_a
same_stays_plain = stays_none only_a

alone_stays_not_plain : StaysPlain only_a (with_b None) → ⊥
alone_stays_not_plain h = b_alone_is_not_founded h.founds
