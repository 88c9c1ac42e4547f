-- Hidden types that are registered one after another, in a store that grows.
use Rattle.std.proofs.Common.{◌≡◌, ⊎_elim, ℕ, zero, suc, ◌+◌, ◌<◌, List, [], ◌∷◌, ◌++◌, length, take, get_or, Option, Some, None, refl, sym, ap, subst, ◌∙◌, arith}
use Rattle.std.specs.Prelude.{slice_get, slice_set, All}
use Rattle.std.proofs.lemmas.List.{take_more, append-nil, append_assoc}
use Rattle.nts_model.specs.Terms.Trees.{Tree}
use Rattle.nts_model.specs.Tables.Contents.{Content}
use Rattle.nts_model.specs.Tables.Resolving.{Knows}
use Rattle.nts_model.proofs.Tables.Slots.{slice_get-push_old, slice_get-push_new, slice_get-slice_set_same, slice_get-slice_set_other, slice_get_below}
use Rattle.nts_model.proofs.Tables.Under.{same_or_other}
use Rattle.nts_terms.specs.declared.handles.AliasTerm.{AliasTerm}
use Rattle.nts_terms.specs.declared.handles.Ty.{Ty}
use Rattle.nts_store.specs.Growth.{IsIn, Extends}
use Rattle.nts_unify.specs.declared.contents.HiddenType.{HiddenType}
use Rattle.nts_unify.specs.Entries.{Entries}
use Rattle.nts_unify.specs.Reading.{content_of, IsHiddenType, AreHiddenTypes, IsLawful}
use Rattle.nts_unify.specs.Lawful.{content_of-extended, AreHiddenTypes-at}
use Rattle.nts_table.specs.Registering.{HasAliasOf, NoneBefore, IsFirstOf, Registers}
use Rattle.nts_table.proofs.HiddenLemmas.{IsHiddenType-extended}
use Rattle.nts_canonical.specs.Forms.{hidden_pairs, AreHidden}
use Rattle.nts_canonical.specs.Building.{stored_hidden, replaced_by, RegistersAll}
use Rattle.nts_canonical.proofs.Making.{some}

-- the arguments of the aliases are of the store
ArgsIn : List Tree → List HiddenType → Type 0
ArgsIn ts xs = (i : ℕ) (x : HiddenType) → slice_get xs i ≡ Some x → IsIn ts x.args.node

has-later : (a b : List Tree) (c : Content) (x h : HiddenType) → Extends a b → IsIn a x.args.node → IsIn a h.args.node → HasAliasOf a c x h → HasAliasOf b c x h
has-later a b c x h e i j k = record { alias = k.alias; args = rw (e.kept x.args.node i, e.kept h.args.node j) k.args }

has-back : (a b : List Tree) (c : Content) (x h : HiddenType) → Extends a b → IsIn a x.args.node → IsIn a h.args.node → HasAliasOf b c x h → HasAliasOf a c x h
has-back a b c x h e i j k = record { alias = k.alias; args = rw (e.kept x.args.node i, e.kept h.args.node j) at k.args }

none-kept : (a b : List Tree) (c : Content) (n : ℕ) (xs : List HiddenType) (h : HiddenType) → Extends a b → ArgsIn a xs → IsIn a h.args.node → NoneBefore a c n xs h → NoneBefore b c n xs h
unfolding ArgsIn
none-kept a b c n xs h e i j k = λ m x l q has. k m x l q (has-back a b c x h e (i m x q) j has)

first-kept : (a b : List Tree) (c : Content) (xs : List HiddenType) (h old : HiddenType) (n : ℕ) → Extends a b → ArgsIn a xs → IsIn a h.args.node → IsFirstOf a c xs h old n → IsFirstOf b c xs h old n
unfolding ArgsIn
first-kept a b c xs h old n e i j k =
    record { at = k.at; has = has-later a b c old h e (i n old k.at) j k.has; first = none-kept a b c n xs h e i j k.first }

registers-kept : (a b : List Tree) (c : Content) (xs : List HiddenType) (h : HiddenType) (ys : List HiddenType) (o : Option Ty) → Extends a b → ArgsIn a xs → IsIn a h.args.node → Registers a c xs h ys o → Registers b c xs h ys o
registers-kept a b c xs h ys None e i j r = (none-kept a b c (length xs) xs h e i j r.0, r.1)
registers-kept a b c xs h ys (Some ty) e i j (n, old, first, is, ends) = (n, old, first-kept a b c xs h old n e i j first, is, ends)

-- .. and stay so
args-push : (a : List Tree) (xs : List HiddenType) (h : HiddenType) → ArgsIn a xs → IsIn a h.args.node → ArgsIn a (xs ++ h ∷ [])
unfolding ArgsIn
args-push a xs h i j = λ n x q. ⊎_elim
    (λ (s : n ≡ length xs). let same : h ≡ x = some (sym (slice_get-push_new xs h) ∙ ap (slice_get (xs ++ h ∷ [])) (sym s) ∙ q) in rw (← same) j)
    (λ (d : n ≡ length xs → ⊥). i n x (sym (slice_get-push_old xs h n d) ∙ q))
    (same_or_other n (length xs))

args-set : (a : List Tree) (xs : List HiddenType) (n : ℕ) (old : HiddenType) (ty : Ty) → ArgsIn a xs → slice_get xs n ≡ Some old → ArgsIn a (slice_set xs n (record old { ty = ty }))
unfolding ArgsIn
args-set a xs n old ty i at = λ m x q. ⊎_elim
    (λ (s : m ≡ n). let same : record old { ty = ty } ≡ x = some (sym (slice_get-slice_set_same xs n (record old { ty = ty }) (slice_get_below xs n old at)) ∙ ap (slice_get (slice_set xs n (record old { ty = ty }))) (sym s) ∙ q) in
    rw (← same) (i n old at))
    (λ (d : m ≡ n → ⊥). i m x (sym (slice_get-slice_set_other xs n m (record old { ty = ty }) d) ∙ q))
    (same_or_other m n)

args-after : (a : List Tree) (c : Content) (xs : List HiddenType) (h : HiddenType) (ys : List HiddenType) (o : Option Ty) → ArgsIn a xs → IsIn a h.args.node → Registers a c xs h ys o → ArgsIn a ys
args-after a c xs h ys None i j r = rw r.1 (args-push a xs h i j)
args-after a c xs h ys (Some ty) i j (n, old, first, is, ends) = rw ends (args-set a xs n old h.ty i first.at)

all-kept : (a b : List Tree) (c : Content) (xs : List HiddenType) (hs : List (AliasTerm × Ty)) (ys ds : List HiddenType) → Extends a b → ArgsIn a xs → All (λ h. IsIn a h.0.args.node) hs → RegistersAll a c xs hs ys ds → RegistersAll b c xs hs ys ds
all-kept a b c xs [] ys ds e i j r = r
all-kept a b c xs (h ∷ hs) ys ds e i j (zs, o, es, r, rest, is) =
    let there = j 0 h (omega arith) in (
      zs,
      o,
      es,
      registers-kept a b c xs (stored_hidden h) zs o e i there r,
      all-kept a b c zs hs ys es e (args-after a c xs (stored_hidden h) zs o i there r) (λ k d l. j (suc k) d (omega (arith, l))) rest,
      is,
    )

all-push : (ts : List Tree) (c : Content) (xs : List HiddenType) (hs : List (AliasTerm × Ty)) (ys ds : List HiddenType) (h : AliasTerm × Ty) (zs : List HiddenType) (o : Option Ty) → RegistersAll ts c xs hs ys ds → Registers ts c ys (stored_hidden h) zs o
    → RegistersAll ts c xs (hs ++ h ∷ []) zs (ds ++ replaced_by (stored_hidden h) o)
all-push ts c xs [] ys ds h zs o r k = (
  zs,
  o,
  [],
  subst (λ z. Registers ts c z (stored_hidden h) zs o) r.0 k,
  (refl, refl),
  ap (λ (z : List HiddenType). z ++ replaced_by (stored_hidden h) o) r.1 ∙ sym (append-nil (replaced_by (stored_hidden h) o)),
)
all-push ts c xs (g ∷ hs) ys ds h zs o (us, p, es, r, rest, is) k = (
  us,
  p,
  es ++ replaced_by (stored_hidden h) o,
  r,
  all-push ts c us hs ys es h zs o rest k,
  ap (λ (z : List HiddenType). z ++ replaced_by (stored_hidden h) o) is ∙ append_assoc (replaced_by (stored_hidden g) p) es (replaced_by (stored_hidden h) o),
)

All-take : {A : Type 0} (P : A → Type 0) (i : ℕ) (xs : List A) → All P xs → All P (take i xs)
All-take P zero xs h = λ k d l. absurd (omega (arith, l))
All-take P (suc i) [] h = λ k d l. absurd (omega (arith, l))
All-take {A = A} P (suc i) (x ∷ xs) h = go (All-take P i xs (λ k d l. h (suc k) d (omega (arith, l))))
  where
    go : All P (take i xs) → (k : ℕ) (d : A) → k < length (x ∷ take i xs) → P (get_or (x ∷ take i xs) k d)
    go rest zero d l = h 0 d (omega arith)
    go rest (suc k) d l = rest k d (omega (arith, l))

args-in : (ts : List Tree) (c : Content) (xs : List HiddenType) → AreHiddenTypes ts c xs → ArgsIn ts xs
unfolding ArgsIn
args-in ts c xs h = λ i x q. (AreHiddenTypes-at ts c xs i x h q).args.within

-- one more, of a table of which only the hidden types change
pub registered_more : (a b : List Tree) (e f : Entries) (zs : List HiddenType) (hs : List (AliasTerm × Ty)) (ds : List HiddenType) (i : ℕ) (d : AliasTerm × Ty) (o : Option Ty) → IsLawful a e → IsLawful a f → f ≡ record e { hidden = f.hidden } → Extends a b → All (λ h. IsHiddenType a (content_of a e) (stored_hidden h)) hs → i < length hs
    → RegistersAll a (content_of a e) e.hidden.lookup (take i hs) f.hidden.lookup ds → Registers a (content_of a f) f.hidden.lookup (stored_hidden (get_or hs i d)) zs o
    → RegistersAll b (content_of b e) e.hidden.lookup (take (i + 1) hs) zs (ds ++ replaced_by (stored_hidden (get_or hs i d)) o)
registered_more a b e f zs hs ds i d o g h q up all l r k =
    let c = content_of a e in
    let later : content_of b e ≡ c = content_of-extended up g in
    let here : content_of a f ≡ c = ap (content_of a) q in
    let within : All (λ h. IsIn a h.0.args.node) hs = (λ j x m. (all j x m).args.within) in
    let old = all-kept a b c e.hidden.lookup (take i hs) f.hidden.lookup ds up (args-in a c e.hidden.lookup g.hidden.lookup) (All-take (λ h. IsIn a h.0.args.node) i hs within) r in
    let one = registers-kept a b c f.hidden.lookup (stored_hidden (get_or hs i d)) zs o up (args-in a (content_of a f) f.hidden.lookup h.hidden.lookup) (within i d l) (subst (λ z. Registers a z f.hidden.lookup (stored_hidden (get_or hs i d)) zs o) here k) in
    rw (take_more hs i d l, later) (all-push b c e.hidden.lookup (take i hs) f.hidden.lookup ds (get_or hs i d) zs o old one)

-- a table of which only the registered types change changes in its hidden types alone
pub hidden_alone : (e f : Entries) → f ≡ record e { hidden = record e.hidden { lookup = f.hidden.lookup } } → f ≡ record e { hidden = f.hidden }
hidden_alone e f q = q ∙ ap (λ z. record e { hidden = z }) (sym (ap (λ z. z.hidden) q))

-- what is to be registered, in a store that has grown and a table of which only the hidden types changed
pub hidden-now : (a b : List Tree) (e f : Entries) (x : HiddenType) → IsLawful a e → f ≡ record e { hidden = f.hidden } → Extends a b → IsHiddenType a (content_of a e) x → IsHiddenType b (content_of b f) x
hidden-now a b e f x h q up k = subst (λ c. IsHiddenType b c x) (sym (ap (content_of b) q)) (IsHiddenType-extended h up k)

-- the hidden types of a row are a table's, if it knows the row
pub hidden-of-row : (ts : List Tree) (c : Content) (hs : List (AliasTerm × Ty)) → AreHidden ts hs → Knows c (hidden_pairs ts hs) → All (λ h. IsHiddenType ts c (stored_hidden h)) hs
hidden-of-row ts c [] h k = λ i d l. absurd (omega (arith, l))
hidden-of-row ts c (x ∷ hs) h k = go (hidden-of-row ts c hs h.1 k.1.1)
  where
    go : All (λ h. IsHiddenType ts c (stored_hidden h)) hs → (i : ℕ) (d : AliasTerm × Ty) → i < length (x ∷ hs) → IsHiddenType ts c (stored_hidden (get_or (x ∷ hs) i d))
    go rest zero d l = record { of_types = h.0.of_types; args = h.0.args; args_known = k.0.1.0; ty = h.0.hidden_type; ty_known = k.1.0 }
    go rest (suc i) d l = rest i d (omega (arith, l))
