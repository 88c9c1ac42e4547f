-- Goals that say that one type is a subtype of another, and what relating leaves of them.
use Rattle.std.proofs.Common.{◌≡◌, ◌⊎◌, inl, inr, ℕ, false, List, [], refl, subst, arith}
use Rattle.nts_model.specs.declared.labels.Variance.{Variance}
use Rattle.nts_model.specs.declared.labels.Variance.TheVariants as variance
use Rattle.nts_model.specs.declared.labels.ListHead.TheVariants as list
use Rattle.nts_model.specs.declared.labels.ClauseHead.TheVariants as clause
use Rattle.nts_model.specs.declared.labels.PredicateHead.TheVariants as predicate
use Rattle.nts_model.specs.declared.labels.UintTy.TheVariants as uint
use Rattle.nts_model.specs.declared.labels.AliasHead.{AliasHead}
use Rattle.nts_model.specs.declared.labels.AliasHead.TheVariants as alias_of
use Rattle.nts_model.specs.declared.labels.TyHead.TheVariants as ty
use Rattle.nts_model.specs.declared.labels.Label.TheVariants as label
use Rattle.nts_model.specs.Terms.Trees.{Tree, empty, more, node}
use Rattle.nts_model.specs.Terms.Regions.{IsRegion}
use Rattle.nts_model.specs.Tables.Contents.{Content}
use Rattle.nts_model.specs.Derivations.Related.{Constraint, pair, unbound, alias, Related, one_tree, regions, constructors, functions, values, open_aliases, aliases, subtypes}
use Rattle.nts_model.specs.Derivations.Rules.{Replaced, chosen, kept_empty, kept_more, kept_node}
use Rattle.nts_model.proofs.Tables.Instances.{Agrees-refl}
use Rattle.nts_variance_model.specs.Variances.Judging.{Judging, Settles}
use Rattle.nts_variance_model.specs.Variances.Leaving.{judging_of}
use Rattle.nts_theory.specs.Subtyping.{is_subtype, IsSubtyping, LeavesPremises, IsNoSubtype}
use Rattle.nts_theory.proofs.Refutation.Subtyping.{subtyping_no_handlers}

abbrev byte : Tree
byte = node (label.Ty (ty.Uint uint.U8)) empty

abbrev word : Tree
word = node (label.Ty (ty.Uint uint.U32)) empty

abbrev nowhere : Tree
nowhere = node (label.List list.Env) empty

abbrev subtype_of : Tree → Tree → Tree
subtype_of a b = unbound (node (label.Predicate (predicate.Subtype false)) (pair a b))

abbrev holds_of_byte : Tree
holds_of_byte = unbound (node (label.Clause (clause.Trait 0)) (more (node (label.List list.Args) (more byte empty)) empty))

says_subtype : IsSubtyping (subtype_of byte word) byte word
says_subtype = record { statement = node (label.Predicate (predicate.Subtype false)) (pair byte word); binds_nothing = refl; says = is_subtype false; formed = ((refl, (refl, tt)), ((tt, tt), ((tt, tt), tt))); closed = (tt, ((tt, tt), ((tt, tt), tt))) }

-- a goal of a trait says no such thing
trait_says_none : (a b : Tree) → IsSubtyping holds_of_byte a b → ⊥
trait_says_none a b is = subtyping_no_handlers holds_of_byte a b is tt

trait_leaves_none : (V : ℕ → List Variance) (c d : Content) → LeavesPremises V c d nowhere holds_of_byte [] → ⊥
trait_leaves_none V c d l = trait_says_none l.left l.right l.is

-- a type is a subtype of itself: nothing is left
byte_is_its_subtype : (V : ℕ → List Variance) (c : Content) → LeavesPremises V c c nowhere (subtype_of byte byte) []
byte_is_its_subtype V c =
    record {
      left = byte;
      right = byte;
      is = record { statement = node (label.Predicate (predicate.Subtype false)) (pair byte byte); binds_nothing = refl; says = is_subtype false; formed = ((refl, (refl, tt)), ((tt, tt), ((tt, tt), tt))); closed = (tt, ((tt, tt), ((tt, tt), tt))) };
      pairs = [];
      related = record {
        relates = record { related = λ f s on ks answered later. (one_tree tt, tt) };
        leaves = record {
          more = omega arith;
          back = λ w s. s;
          complete = λ j w s judged settled all. (record { world = w; agrees = Agrees-refl _ w; solves = s; settled = settled; names = λ f n t. n }, tt, tt);
        };
      };
      goals = [];
      of_pairs = tt;
      premises = refl;
    }

-- a byte is no word, whatever aliases stand for
no_alias : (t : Tree) → (t ≡ byte ⊎ (t ≡ word ⊎ t ≡ empty)) → (h : AliasHead) (ts : Tree) → t ≡ alias h ts → ⊥
no_alias t (inl e) (alias_of.Ty i) ts f = cc (e, f)
no_alias t (inl e) (alias_of.Const i) ts f = cc (e, f)
no_alias t (inr (inl e)) (alias_of.Ty i) ts f = cc (e, f)
no_alias t (inr (inl e)) (alias_of.Const i) ts f = cc (e, f)
no_alias t (inr (inr e)) (alias_of.Ty i) ts f = cc (e, f)
no_alias t (inr (inr e)) (alias_of.Const i) ts f = cc (e, f)

module _ (C : Tree → Tree → Type 0) where
  stays_empty : (a b : Tree) → Replaced C a b → a ≡ empty → b ≡ empty
  stays_empty a b (chosen x y z) e = absurd (no_alias a (inr (inr e)) x.head x.parts x.is)
  stays_empty a b kept_empty e = refl
  stays_empty a b (kept_more x y) e = cc e
  stays_empty a b (kept_node x y) e = cc e

  stays_byte : (a b : Tree) → Replaced C a b → a ≡ byte → b ≡ byte
  stays_byte a b (chosen x y z) e = absurd (no_alias a (inl e) x.head x.parts x.is)
  stays_byte a b kept_empty e = cc e
  stays_byte a b (kept_more x y) e = cc e
  stays_byte a b (kept_node {c = c} {d = d} x y) e = (let none : c ≡ empty = cc e in let still = stays_empty c d y none in cc (e, still))

  stays_word : (a b : Tree) → Replaced C a b → a ≡ word → b ≡ word
  stays_word a b (chosen x y z) e = absurd (no_alias a (inr (inl e)) x.head x.parts x.is)
  stays_word a b kept_empty e = cc e
  stays_word a b (kept_more x y) e = cc e
  stays_word a b (kept_node {c = c} {d = d} x y) e = (let none : c ≡ empty = cc e in let still = stays_empty c d y none in cc (e, still))

not_related : (V : ℕ → List Variance) (S : Tree → Type 0) (H : Constraint → Type 0) (v : Variance) (a b : Tree) → Related V S H (λ g. ⊥) v a b → a ≡ byte → b ≡ word → ⊥
not_related V S H v a b (one_tree x) e f = cc (e, f)
not_related V S H v a b (regions x y z) e f = (let r : IsRegion byte = subst IsRegion e x in let none = r.1 in cc none)
not_related V S H v a b (constructors x) e f = cc e
not_related V S H v a b (functions x) e f = cc e
not_related V S H v a b (values x) e f = cc e
not_related V S H v a b (open_aliases {ts = ts} h x y z) e f = no_alias a (inl e) h ts refl
not_related V S H v a b (aliases x y z p) e f = p
not_related V S H v a b (subtypes x y z u i j p) e f = p

never_settle : (J : Judging) (v : Variance) → Settles J v byte word → ⊥
never_settle J v s = not_related _ _ _ v s.left s.right s.along (stays_byte _ byte s.left s.of_left refl) (stays_word _ word s.right s.of_right refl)

byte_is_no_word : (V : ℕ → List Variance) (c : Content) → IsNoSubtype V c (subtype_of byte word)
byte_is_no_word V c = record { left = byte; right = word; is = says_subtype; refused = record { none = λ j w s judged settled all. never_settle (judging_of V j) variance.Covariant all.0 } }

trait_has_no_types : (V : ℕ → List Variance) (c : Content) → IsNoSubtype V c holds_of_byte → ⊥
trait_has_no_types V c n = trait_says_none n.left n.right n.is
