-- Candidates whose equations have aliases: which equations these are, and which candidates are begun at once.
use Rattle.std.proofs.Common.{◌≡◌, inl, inr, true, false, ℕ, List, [], ◌∷◌, length, refl, sym, subst, arith}
use Rattle.nts_model.specs.declared.labels.Variance.{Variance}
use Rattle.nts_model.specs.declared.labels.AliasHead.{AliasHead}
use Rattle.nts_model.specs.declared.labels.AliasHead.TheVariants as alias_of
use Rattle.nts_model.specs.declared.labels.AliasRelationDirection.TheVariants as direction
use Rattle.nts_model.specs.declared.labels.Variance.TheVariants as variance
use Rattle.nts_model.specs.declared.labels.TyHead.TheVariants as ty
use Rattle.nts_model.specs.declared.labels.UintTy.TheVariants as uint
use Rattle.nts_model.specs.declared.labels.Label.TheVariants as label
use Rattle.nts_model.specs.Terms.Trees.{Tree, empty, node}
use Rattle.nts_model.specs.Tables.Contents.{Content}
use Rattle.nts_model.specs.Tables.Resolving.{Knows, IsSound}
use Rattle.nts_model.specs.Derivations.Related.{alias, IsAlias}
use Rattle.nts_model.specs.Derivations.Sequents.{Premise}
use Rattle.nts_model.specs.Derivations.Rules.{Mode, coherence, related, alike, relating}
use Rattle.nts_model.specs.Derivations.Handlers.{Candidate}
use Rattle.nts_model.proofs.Tables.Instances.{Agrees-refl}
use Rattle.nts_model.proofs.Terms.Scoping.{closed_listed}
use Rattle.nts_model.proofs.Tables.Held.{Continues-refl}
use Rattle.nts_variance_model.specs.Variances.Relations.{Relating}
use Rattle.nts_variance_model.proofs.Variances.AnsweredGoals.{answered_relates}
use Rattle.nts_theory.specs.Affirming.{plain_way}
use Rattle.nts_theory.specs.Subtyping.{LeavesGoals}
use Rattle.nts_theory.specs.Aliasing.{alias_relation, SaysEqual}
use Rattle.nts_theory.specs.RelatingCandidates.{relates_aliases, HasPlainEquations, AreEqualities, IsBegunByRelating, IsBegunByEqualities, IsUnrelated, pairs_with, aliased_equations, Begins, AreTypesApart, HasTypesApart}
use Rattle.nts_decisions.specs.Deciding.{HasNoAliases}

abbrev byte : Tree
byte = node (label.Ty (ty.Uint uint.U8)) empty

abbrev word : Tree
word = node (label.Ty (ty.Uint uint.U32)) empty

abbrev item : Tree
item = alias (alias_of.Ty 0) empty

-- an equation of a type and an alias relates aliases, and one of two types does not, nor one of what is to be alike
item_is_related : (relates_aliases (related word item) ≡ true) × (relates_aliases (related item word) ≡ true)
item_is_related = (refl, refl)

word_is_plain : (relates_aliases (related word byte) ≡ false) × (relates_aliases (alike item word) ≡ false)
word_is_plain = (refl, refl)

-- .. so it decides nothing
word_has_none : HasNoAliases (related word byte)
word_has_none = (refl, refl)

item_has_one : HasNoAliases (related word item) → ⊥
item_has_one n = cc n.1

-- rules for a word, and for an alias
abbrev for_word : Candidate
for_word = plain_way (related word word ∷ []) []

abbrev for_item : Candidate
for_item = plain_way (related item word ∷ []) []

word_rule_is_plain : HasPlainEquations for_word
word_rule_is_plain = refl

item_rule_is_not : HasPlainEquations for_item → ⊥
item_rule_is_not h = cc h

-- the rule for an alias is begun by relating outside of coherence, or not at all
item_is_not_made_equal : (declared : ℕ → List Variance) (mode : Mode) (c met : Content) (e : Tree) (ps : List Premise) → (mode ≡ coherence → ⊥) → Begins declared mode c e for_item met ps → IsBegunByRelating declared c e for_item met ps
item_is_not_made_equal declared mode c met e ps outside (inl (vs, plain, begun, are)) = absurd (item_rule_is_not plain)
item_is_not_made_equal declared mode c met e ps outside (inr (inl (cut, by))) = by
item_is_not_made_equal declared mode c met e ps outside (inr (inr (inside, by))) = absurd (outside inside)

-- .. and the rule for a word never is; nor is it called unrelated
word_is_not_related : (declared : ℕ → List Variance) (c met : Content) (e : Tree) (ps : List Premise) → IsBegunByRelating declared c e for_word met ps → ⊥
word_is_not_related declared c met e ps b = b.some word_rule_is_plain

word_is_not_unrelated : (declared : ℕ → List Variance) (c : Content) → IsUnrelated declared c for_word → ⊥
word_is_not_unrelated declared c u = u.some word_rule_is_plain

-- no goals say each that an alias is equal to a term, and one of a trait says no such thing
none_are_equalities : (c : Content) → AreEqualities c []
none_are_equalities c = record { equal = λ g i. absurd i; knows = λ g i. absurd i }

word_is_no_equality : (c : Content) → AreEqualities c (word ∷ []) → ⊥
word_is_no_equality c h = elim (h.equal word (inl refl)) [ inl q ↦ (let x = q.is in elim x.says [ inl e ↦ cc e | inr e ↦ cc e ]) | inr q ↦ (let x = q.is in let e = x.says in cc e) ]

-- that Item is equal to a word says so
abbrev item_is_word : Tree
item_is_word = alias_relation direction.Equate item word

item_is_alias : IsAlias item
item_is_alias = record { head = alias_of.Ty 0; parts = empty; is = refl; closed = (tt, ((tt, tt), tt)) }

word_is_no_alias : IsAlias word → ⊥
word_is_no_alias i = by_head i.head i.is
  where
    by_head : (h : AliasHead) → word ≡ alias h i.parts → ⊥
    by_head (alias_of.Ty n) q = cc q
    by_head (alias_of.Const n) q = cc q

item_equals_word : SaysEqual item_is_word
item_equals_word =
    inl (record {
      left = item;
      right = word;
      is = record { by = direction.Equate; says = inl refl; alias = item_is_alias; plain = word_is_no_alias; kind = refl };
      equal = refl;
      ends = (tt, tt);
      no_alias = refl;
    })

-- .. and so does that Item is equal to itself
item_equals_item : SaysEqual (alias_relation direction.Equate item item)
item_equals_item = inr (record { left = item; right = item; is = record { by = direction.Equate; says = refl; left = item_is_alias; right = item_is_alias; kind = refl }; equal = refl })

item_is_known : (c : Content) → Knows c item_is_word
item_is_known c =
    let left : Knows c item = ((tt, tt, refl), (((tt, tt, refl), tt, tt), tt), tt) in
    let right : Knows c word = ((tt, tt, refl), tt, tt) in
    let alias = item_is_alias in
    ((tt, tt, refl), (((tt, tt, refl), tt, tt), (((tt, tt, refl), (left, (right, tt)), tt), tt)), ((tt, tt), ((tt, (closed_listed empty 0 item alias.closed, (closed_listed empty 0 word (tt, tt), tt))), tt)))

-- relating the sides of the rule for an alias leaves this goal, and nothing else
abbrev sides : List Relating
sides = pairs_with [] (aliased_equations for_item.equations)

sides_are_left : (declared : ℕ → List Variance) (c : Content) → LeavesGoals declared c c sides sides
sides_are_left declared c =
    record {
      relates = record { related = λ f sound later ks answered none. (answered_relates declared f ks (record { variance = variance.Invariant; left = item; right = word }) answered.0, tt) };
      leaves = record {
        more = omega arith;
        back = λ w s. s;
        complete = λ j w s k settled all. (record { world = w; agrees = Agrees-refl (length c.slots) w; solves = s; settled = settled; names = λ f n u. n }, tt, all);
      };
    }

item_rule_is_begun : (declared : ℕ → List Variance) (c : Content) (e : Tree) → IsBegunByRelating declared c e for_item c (relating e item_is_word ∷ [])
item_rule_is_begun declared c e =
    record {
      some = item_rule_is_not;
      values = [];
      before = c;
      begun = record { made = c; equal = c; freshens = refl; equates = refl; adds = refl };
      pairs = sides;
      related = sides_are_left declared c;
      goals = item_is_word ∷ [];
      of_pairs = (inl refl, tt);
      premises = refl;
    }

-- so in coherence the rule for an alias is begun, and then the goal is asked; the rule for a word is not begun so
item_rule_is_begun_by_equalities : (declared : ℕ → List Variance) (c : Content) (e : Tree) → IsSound c → IsBegunByEqualities declared c e for_item c (relating e item_is_word ∷ [])
unfolding item_rule_is_begun
item_rule_is_begun_by_equalities declared c e sound =
    record {
      all = relating e item_is_word ∷ [];
      begun = item_rule_is_begun declared c e;
      continues = Continues-refl c sound;
      asked = inl (record { equal = λ g i. elim i [ inl q ↦ subst SaysEqual (sym q) item_equals_word | inr j ↦ absurd j ]; knows = λ g i. elim i [ inl q ↦ subst (Knows c) (sym q) (item_is_known c) | inr j ↦ absurd j ] }, refl);
    }

word_rule_is_not_begun_so : (declared : ℕ → List Variance) (c met : Content) (e : Tree) (ps : List Premise) → IsBegunByEqualities declared c e for_word met ps → ⊥
word_rule_is_not_begun_so declared c met e ps b = (let by = b.begun in by.some word_rule_is_plain)

-- a candidate without equations is begun by what is there
abbrev for_all : Candidate
for_all = plain_way [] []

all_is_begun : (declared : ℕ → List Variance) (mode : Mode) (c : Content) (e : Tree) → Begins declared mode c e for_all c []
all_is_begun declared mode c e = inl ([], refl, record { made = c; equal = c; freshens = refl; equates = refl; adds = refl }, refl)

-- a byte and a word are types apart; an alias and a word are not
byte_and_word_are_apart : HasTypesApart (plain_way (related byte word ∷ []) [])
byte_and_word_are_apart =
    record {
      left = byte;
      right = word;
      equation = inl refl;
      apart = record { left = ty.Uint uint.U8; right = ty.Uint uint.U32; of_left = refl; of_right = refl; apart = λ q. cc q; left_plain = refl; right_plain = refl };
    }

item_is_not_apart : (t : Tree) → AreTypesApart item t → ⊥
item_is_not_apart t a = (let same = a.of_left in let plain = a.left_plain in cc (same, plain))
