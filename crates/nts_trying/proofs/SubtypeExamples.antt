-- Two type variables in a table of two, which are joined or left apart; types that are related; and what a goal of theirs is told.
use Rattle.std.proofs.Common.{◌≡◌, inl, inr, ⊎_elim, ℕ, zero, suc, true, false, List, [], ◌∷◌, map, Option, Some, None, refl, sym, ap, ◌∙◌, subst, arith}
use Rattle.std.specs.Prelude.{slice_get}
use Rattle.nts_model.specs.declared.labels.AliasHead.{AliasHead}
use Rattle.nts_model.specs.declared.labels.AliasHead.TheVariants as alias_of
use Rattle.nts_model.specs.declared.labels.Variance.{Variance}
use Rattle.nts_model.specs.declared.labels.Variance.TheVariants as variance
use Rattle.nts_model.specs.declared.labels.VariableKind.TheVariants as kind
use Rattle.nts_model.specs.declared.labels.UintTy.TheVariants as uint
use Rattle.nts_model.specs.declared.labels.TyHead.TheVariants as ty
use Rattle.nts_model.specs.declared.labels.Label.TheVariants as label
use Rattle.nts_model.specs.Terms.Trees.{Tree, empty, node, variable_tree}
use Rattle.nts_model.specs.Terms.Regions.{IsRegion}
use Rattle.nts_model.specs.Lists.{Among}
use Rattle.nts_model.specs.Tables.Resolving.{deeply_resolved}
use Rattle.nts_model.specs.Tables.Contents.{Content}
use Rattle.nts_model.specs.Derivations.Related.{Constraint, alias, Related, one_tree, regions, constructors, functions, values, open_aliases, aliases, subtypes}
use Rattle.nts_model.specs.Derivations.Rules.{Meaning, Mode, coherence}
use Rattle.nts_model.specs.Derivations.Proofs.{Assumed}
use Rattle.nts_theory.specs.Subtyping.{IsNoSubtype}
use Rattle.nts_theory.specs.Telling.{Verdict, IsPlainResponse}
use Rattle.nts_theory.specs.RelatingCandidates.{IsCutIn}
use Rattle.nts_certainty.specs.Certainties.{ambiguous}
use Rattle.nts_certainty.specs.declared.certainty.Certainty.TheVariants as certainty
use Rattle.nts_canonical.specs.declared.types.Canonical.{Canonical}
use Rattle.nts_response.specs.declared.types.Response.{Response}
use Rattle.nts_response.specs.Forms.{response_at}
use Rattle.nts_terms.specs.declared.cx.Cx.{Cx}
use Rattle.nts_terms.specs.declared.modes.TypingMode.{TypingMode}
use Rattle.nts_terms.specs.declared.modes.TypingMode.TheVariants as modes
use Rattle.nts_terms.specs.Modes.{mode_of}
use Rattle.nts_unify.specs.declared.contents.Variable.{Variable}
use Rattle.nts_unify.specs.declared.contents.State.TheVariants.{Unset}
use Rattle.nts_unify.specs.Entries.{Entries}
use Rattle.nts_unify.specs.Reading.{content_of}
use Rattle.nts_unify.specs.Roots.{SubLeads, SubLinked, SubRootsJoin, here, on}
use Rattle.nts_table.specs.Tables.{Table}
use Rattle.nts_meaning.specs.Telling.{Ruling}
use Rattle.nts_trying.specs.declared.subtypes.TypePair.{TypePair}
use Rattle.nts_trying.specs.Subtyping.{AreVariablesIn, JoinsTypes, AreUntouched, AreJoinedTypes, AreSubtypesBy, SubtypesTold, SubtypesRefuted, IsJoinedAnswer}

-- a store with two type variables and a type without variables
abbrev byte : Tree
byte = node (label.Ty (ty.Uint uint.U8)) empty

abbrev word : Tree
word = node (label.Ty (ty.Uint uint.U32)) empty

abbrev store : List Tree
store = variable_tree kind.Ty 0 ∷ variable_tree kind.Ty 1 ∷ byte ∷ []

abbrev types : ℕ → ℕ → TypePair
types a b = record { sub = record { node = record { number = a } }; sup = record { node = record { number = b } } }

-- a table of these variables, of which the second one leads to this sub root
abbrev variable_with : Option ℕ → Variable
variable_with s = record { kind = kind.Ty; universe = 0; state = Unset; sub_link = s }

abbrev entries_with : Option ℕ → Entries
entries_with s = record { variables = variable_with None ∷ variable_with s ∷ []; order = []; universe = 0; constraints = []; hidden = record { lookup = []; duplicates = [] } }

abbrev table_with : TypingMode → Option ℕ → Table
table_with m s = record { entries = entries_with s; saved = []; mode = m }

are_variables : (m : TypingMode) → AreVariablesIn store (table_with m None) (types 0 1) 0 1
are_variables m = (refl, refl)

byte_is_none : (m : TypingMode) (n k : ℕ) → AreVariablesIn store (table_with m None) (types 2 1) n k → ⊥
byte_is_none m n k v = (let e = v.0 in cc e)

-- the variables are joined where the second one leads to the first
joined : SubRootsJoin (entries_with None) (entries_with (Some 0)) 0 1
joined =
    record {
      first = 0;
      second = 1;
      of_first = record { within = omega arith; leads = here; ends = λ v e. (let is : variable_with None ≡ v = cc e in ap (λ (z : Variable). z.sub_link) (sym is)) };
      of_second = record { within = omega arith; leads = here; ends = λ v e. (let is : variable_with None ≡ v = cc e in ap (λ (z : Variable). z.sub_link) (sym is)) };
      joined = inr (record { apart = λ e. cc e; variable = variable_with None; at = refl; entries = refl });
    }

joins_two : (a b : Cx) (m : TypingMode) → a.nodes ≡ store → JoinsTypes a b (table_with m None) (table_with m (Some 0)) (types 0 1) true
joins_two a b m same = (0, 1, subst (λ ts. AreVariablesIn ts (table_with m None) (types 0 1) 0 1) (sym same) (are_variables m), joined)

are_joined : (a b : Cx) → a.nodes ≡ store → AreJoinedTypes a b (table_with modes.PostAnalysis None) (table_with modes.PostAnalysis (Some 0)) (types 0 1)
are_joined a b same = record { outside = λ e. cc e; joins = joins_two a b modes.PostAnalysis same }

-- .. and not where nothing was done
leads_nowhere : (n r : ℕ) → SubLeads (entries_with None) n r → n ≡ r
leads_nowhere n r here = refl
leads_nowhere n r (on {m = m} v l at link) = absurd (no_link m v at link)
  where
    no_link : (k : ℕ) (w : Variable) → slice_get (entries_with None).variables k ≡ Some w → w.sub_link ≡ Some r → ⊥
    no_link zero w e f = (let is : variable_with None ≡ w = cc e in let none : None ≡ Some r = ap (λ (z : Variable). z.sub_link) is ∙ f in cc none)
    no_link (suc zero) w e f = (let is : variable_with None ≡ w = cc e in let none : None ≡ Some r = ap (λ (z : Variable). z.sub_link) is ∙ f in cc none)
    no_link (suc (suc k)) w e f = cc e

abbrev link_of : Option Variable → Option ℕ
link_of (Some v) = v.sub_link
link_of None = None

apart_no : SubRootsJoin (entries_with None) (entries_with None) 0 1 → ⊥
apart_no j =
    let one = leads_nowhere 0 j.first j.of_first.leads in
    let two = leads_nowhere 1 j.second j.of_second.leads in
    ⊎_elim
    (λ x. (let e : 0 ≡ 1 = one ∙ x.0 ∙ sym two in cc e))
    (λ x.
    let linked : SubLinked (entries_with None) (entries_with None) 0 1 = rw (← one, ← two) at x in
    let e : None ≡ Some 0 = ap (λ (z : Entries). link_of (slice_get z.variables 1)) linked.entries in
    cc e) j.joined

-- in coherence the table is left alone, and in no other mode
left_alone : (t : Table) → t.mode ≡ modes.Coherence → AreUntouched t t
left_alone t e = record { inside = ap mode_of e; same = refl }

touched_elsewhere : (t : Table) → t.mode ≡ modes.PostAnalysis → AreUntouched t t → ⊥
touched_elsewhere t e u = (let i = sym (ap mode_of e) ∙ u.inside in cc i)

-- a type is a subtype of itself, by no goals; and another one is not, by none
byte_of_byte : (m : Meaning) (mode : Mode) (A : List Assumed) (c : Content) (e : Tree) → AreSubtypesBy m mode A c e byte byte
byte_of_byte m mode A c e = record { goals = []; proved = λ g i. absurd i; related = one_tree tt }

no_alias : (h : AliasHead) (ts : Tree) → alias h ts ≡ byte → ⊥
no_alias (alias_of.Ty i) ts e = cc e
no_alias (alias_of.Const i) ts e = cc e

-- where no goal serves
module _ (V : ℕ → List Variance) (S : Tree → Type 0) (H : Constraint → Type 0) (P : Tree → Type 0) (none : (g : Tree) → P g → ⊥) where
  not_related : (v : Variance) (a b : Tree) → Related V S H P v a b → a ≡ byte → b ≡ word → ⊥
  not_related v a b (one_tree x) e f = cc (e, f)
  not_related v a b (regions x y z) e f = (let r : IsRegion byte = subst IsRegion e x in let n = r.1 in cc n)
  not_related v a b (constructors x) e f = cc e
  not_related v a b (functions x) e f = cc e
  not_related v a b (values x) e f = cc e
  not_related v a b (open_aliases {ts = ts} h x y z) e f = no_alias h ts e
  not_related v a b (aliases x y z p) e f = none _ p
  not_related v a b (subtypes x y z u i j p) e f = none _ p

abbrev now : Content
now = content_of store (entries_with None)

byte_of_word : (m : Meaning) (mode : Mode) (A : List Assumed) (e : Tree) (s : AreSubtypesBy m mode A now e byte word) → s.goals ≡ [] → ⊥
byte_of_word m mode A e s none =
    not_related _ _ _ (Among (map (deeply_resolved now) s.goals)) (λ g i. subst (λ gs. Among (map (deeply_resolved now) gs) g) none i) variance.Covariant _ _ s.related refl refl

-- a doubt that says what was known is told of each goal; in coherence no yes is, and nothing is refuted
doubt_is_told : (h : Ruling) (mode : Mode) (c : Content) (e g : Tree) (qs : List Tree) (v : Verdict) → v.is_yes ≡ false → IsPlainResponse c qs v.response → SubtypesTold h mode c e g qs v
doubt_is_told h mode c e g qs v unsure plain = inr (unsure, plain)

coherence_tells_no_yes : (h : Ruling) (c : Content) (e g : Tree) (qs : List Tree) (v : Verdict) → v.is_yes ≡ true → SubtypesTold h coherence c e g qs v → ⊥
coherence_tells_no_yes h c e g qs v sure (inl x) = (let w = x.reached in w.outside refl)
coherence_tells_no_yes h c e g qs v sure (inr x) = (let n = x.0 in cc (sure, n))

apart_is_refuted : (h : Ruling) (mode : Mode) (c : Content) (e g : Tree) → IsCutIn mode → IsNoSubtype h.variances c g → SubtypesRefuted h mode c e g
apart_is_refuted h mode c e g outside none = (outside, inl none)

coherence_refutes_none : (h : Ruling) (c : Content) (e g : Tree) → SubtypesRefuted h coherence c e g → ⊥
coherence_refutes_none h c e g r = r.0 refl

-- of joined variables a doubt is answered that says nothing else, and no yes
doubt_is_joined : (b : List Tree) (m : TypingMode) (qs : List Tree) (r : Canonical Response) → r.value.certainty ≡ ambiguous → IsPlainResponse (content_of store (entries_with (Some 0))) qs (response_at b r) → IsJoinedAnswer store b (table_with m None) qs 0 1 r
doubt_is_joined b m qs r doubt says = record { after = entries_with (Some 0); joins = joined; doubt = doubt; says = says }

yes_is_not_joined : (b : List Tree) (t : Table) (qs : List Tree) (n k : ℕ) (r : Canonical Response) → r.value.certainty ≡ certainty.Yes → IsJoinedAnswer store b t qs n k r → ⊥
yes_is_not_joined b t qs n k r sure j = (let d = j.doubt in cc (sure, d))
