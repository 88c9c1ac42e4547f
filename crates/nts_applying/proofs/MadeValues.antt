-- What is chosen for positions, one by one.
use Rattle.std.proofs.Common.{◌≡◌, ℕ, zero, suc, ◌+◌, ◌≤◌, ◌<◌, ◌⊎◌, ⊎_elim, List, [], ◌∷◌, ◌++◌, map, length, take, get_or, Option, Some, None, inl, inr, refl, sym, ap, subst, ◌∙◌, arith}
use Rattle.std.specs.Prelude.{slice_get, All, Result, Ok, Err, IfOk, IsErrAnd, IsOkUnless}
use Rattle.nts_store.specs.declared.fault.Fault.{Fault}
use Rattle.nts_store.specs.declared.fault.Fault.TheVariants.{Memory}
use Rattle.std.proofs.lemmas.List.{take_more, length-map, length-take-le, get_or-map}
use Rattle.std.proofs.lemmas.List.Elements.{All-push}
use Rattle.std.proofs.lemmas.Bool.{cases_lt}
use Rattle.nts_model.specs.declared.labels.Sort.TheVariants as sort
use Rattle.nts_model.specs.declared.labels.VariableKind.{VariableKind}
use Rattle.nts_model.specs.declared.labels.VariableKind.TheVariants as kind
use Rattle.nts_model.specs.Terms.Trees.{Tree, empty, kind_of, of_sort, variable_tree}
use Rattle.nts_model.specs.Tables.Contents.{Content, with_slot}
use Rattle.nts_model.specs.Tables.Resolving.{Knows}
use Rattle.nts_model.specs.Terms.Substitutions.{leaf_tree}
use Rattle.nts_model.specs.Canonical.Inputs.{PositionKind, type_variable, integer_variable, float_variable, const_variable, region_variable, placeholder}
use Rattle.nts_model.specs.Answers.Responses.{universe_of_kind}
use Rattle.nts_model.specs.Answers.Applying.{IsNew, Chooses, ChoosesAll}
use Rattle.nts_model.proofs.Tables.Slots.{Knows-kept, KeepsKinds, KeepsKinds-refl, KeepsKinds-with_slot}
use Rattle.nts_theory.proofs.Responses.Applying.{new_knows}
use Rattle.nts_model.proofs.Tables.Fitting.{Fits-kind_of}
use Rattle.nts_store.specs.Growth.{tree_at, Extends}
use Rattle.nts_terms.specs.declared.cx.Cx.{Cx}
use Rattle.nts_terms.specs.declared.handles.GenericArg.{GenericArg}
use Rattle.nts_terms.specs.Handles.{HoldsArg}
use Rattle.nts_unify.specs.declared.contents.Variable.{Variable}
use Rattle.nts_unify.specs.declared.contents.State.TheVariants.{Unset}
use Rattle.nts_unify.specs.Entries.{Entries, added}
use Rattle.nts_unify.specs.Reading.{content_of, slot_of, state_with}
use Rattle.nts_unify.specs.Lawful.{content_of-extended, content_of-added}
use Rattle.nts_terms.specs.Rest.{Grows}
use Rattle.nts_table.specs.Frames.{ChangesEntries}
use Rattle.nts_table.specs.Tables.{Table, IsTable}
use Rattle.nts_table.specs.Making.{unset_variable, IsAddedTo}
use Rattle.nts_canonical.specs.declared.types.CanonicalVarKind.{CanonicalVarKind}
use Rattle.nts_canonical.specs.Forms.{kind_of_var, trees_of}
use Rattle.nts_canonical.specs.Kinds.{value_leaf}
use Rattle.nts_canonical.specs.Building.{AddsValue, IsPositionValue, IsArgOf}
use Rattle.nts_canonical.proofs.PairLists.{holds_kept}
use Rattle.nts_table.proofs.TermTables.{proper_content}
use Rattle.nts_response.specs.Applied.{IsOriginal, AreGuesses, StepKeeps, content_within, IsMadeForPosition, GuessFits, HasSort, PositionsHaveSorts, NamesOriginal, original_named}
use Rattle.nts_canonical.proofs.VarLists.{map-push}
use Rattle.nts_response.specs.Replacing.{argument_value}
use Rattle.nts_store.proofs.Growing.{Extends-refl}
use Rattle.nts_response.specs.Placing.{ArePlaced, IsPlacedNext, JoinsNew}
use Rattle.nts_response.proofs.Each.{same_views, values_kept}
use Rattle.nts_applying.proofs.Placed.{placed_none, placed_more, guess_placed}
use Rattle.nts_applying.proofs.Stepping.{step_none, step_then, arg_later}

-- one variable more, of which nothing is known but its sub-unification class
pub record IsAdded (e f : Entries) (k : VariableKind) (u : ℕ) : Type 0 where
  pub variable : Variable
  pub entries : f ≡ added e variable
  pub of_kind : variable.kind ≡ k
  pub universe : variable.universe ≡ u
  pub free : variable.state ≡ Unset

is_added : (e f : Entries) (k : VariableKind) (u : ℕ) (o : Option ℕ) → IsAddedTo e f (unset_variable k u) o → IsAdded e f k u
is_added e f k u None h = record { variable = unset_variable k u; entries = h; of_kind = refl; universe = refl; free = refl }
is_added e f k u (Some n) (r, root, h) = record { variable = record (unset_variable k u) { sub_link = Some r }; entries = h; of_kind = refl; universe = refl; free = refl }

-- the table has one new variable
pub is_new : (a b : List Tree) (t w : Table) (k : VariableKind) (u : ℕ) (x : Tree) → IsTable a t → IsTable b w → Extends a b → IsAdded t.entries w.entries k u → x ≡ variable_tree k (length t.entries.variables) → IsNew (content_of a t.entries) (content_of b w.entries) k u x
is_new a b t w k u x h i up n q =
    let v = n.variable in
    record {
      slot = slot_of b v;
      of_kind = n.of_kind;
      universe = n.universe;
      free = ap (state_with b) n.free;
      entries = ap (content_of b) n.entries ∙ content_of-added b t.entries v ∙ ap (λ z. with_slot z (slot_of b v)) (content_of-extended up h.now);
      tree = q ∙ ap (variable_tree k) (sym (length-map t.entries.variables (slot_of a)));
      proper = proper_content i;
    }

-- the value of a kind is what is made for it
pub made_value : (a b : List Tree) (t w : Table) (p u : ℕ) (os values : List Tree) (k : PositionKind) (x : Tree) → IsTable a t → IsTable b w → Extends a b → u ≡ p + universe_of_kind k → u ≤ t.entries.universe → original_named k ≡ None → IsPositionValue k u values t.entries w.entries x → IsMadeForPosition p os k x (content_of a t.entries) (content_of b w.entries)
made_value a b t w p u os values (type_variable v r) x h i up is l o q = is_new a b t w kind.Ty (p + v) x h i up (subst (IsAdded t.entries w.entries kind.Ty) is (is_added t.entries w.entries kind.Ty u _ q.adds)) q.tree
made_value a b t w p u os values integer_variable x h i up is l o q = is_new a b t w kind.Int 0 x h i up (is_added t.entries w.entries kind.Int 0 None q.adds) q.tree
made_value a b t w p u os values float_variable x h i up is l o q = is_new a b t w kind.Float 0 x h i up (is_added t.entries w.entries kind.Float 0 None q.adds) q.tree
made_value a b t w p u os values (const_variable v) x h i up is l o q = is_new a b t w kind.Const (p + v) x h i up (subst (IsAdded t.entries w.entries kind.Const) is (is_added t.entries w.entries kind.Const u None q.adds)) q.tree
made_value a b t w p u os values (region_variable v) x h i up is l o q = is_new a b t w kind.Region (p + v) x h i up (subst (IsAdded t.entries w.entries kind.Region) is (is_added t.entries w.entries kind.Region u None q.adds)) q.tree
made_value a b t w p u os values (placeholder s zero n) x h i up is l o q = cc
made_value a b t w p u os values (placeholder sort.Ty (suc v) n) x h i up is l o q = (subst (λ z. x ≡ leaf_tree (value_leaf (placeholder sort.Ty (suc v) n) z (length t.entries.variables))) is q.tree, omega (arith, is, l), ap (content_of b) q.adds ∙ content_of-extended up h.now)
made_value a b t w p u os values (placeholder sort.Const (suc v) n) x h i up is l o q = (subst (λ z. x ≡ leaf_tree (value_leaf (placeholder sort.Const (suc v) n) z (length t.entries.variables))) is q.tree, omega (arith, is, l), ap (content_of b) q.adds ∙ content_of-extended up h.now)
made_value a b t w p u os values (placeholder sort.Region (suc v) n) x h i up is l o q = (subst (λ z. x ≡ leaf_tree (value_leaf (placeholder sort.Region (suc v) n) z (length t.entries.variables))) is q.tree, omega (arith, is, l), ap (content_of b) q.adds ∙ content_of-extended up h.now)

-- the table keeps its variables
adds_entries : (k : PositionKind) (u : ℕ) (vs : List Tree) (e f : Entries) → AddsValue k u vs e f → (f ≡ e) ⊎ ((v : Variable) × (f ≡ added e v))
adds_entries (type_variable w r) u vs e f h = (let n = is_added e f kind.Ty u _ h in inr (n.variable, n.entries))
adds_entries integer_variable u vs e f h = inr (unset_variable kind.Int 0, h)
adds_entries float_variable u vs e f h = inr (unset_variable kind.Float 0, h)
adds_entries (const_variable w) u vs e f h = inr (unset_variable kind.Const u, h)
adds_entries (region_variable w) u vs e f h = inr (unset_variable kind.Region u, h)
adds_entries (placeholder s w n) u vs e f h = inl h

module _ (a b : Cx) (t w : Table) (h : IsTable a.nodes t) (i : IsTable b.nodes w) (g : Grows a b) (changes : ChangesEntries t w) where
  kept : KeepsKinds (content_of a.nodes t.entries) (content_of b.nodes w.entries) → w.entries.universe ≡ t.entries.universe → w.entries.hidden ≡ t.entries.hidden → StepKeeps a b t w
  kept kinds universe hidden = record { grows = g; table = i; kinds = kinds; saved = changes.saved; mode = changes.mode; universe = universe; hidden = hidden }

  none_added : w.entries ≡ t.entries → StepKeeps a b t w
  none_added e =
      let same : content_of b.nodes w.entries ≡ content_of a.nodes t.entries = ap (content_of b.nodes) e ∙ content_of-extended g.extends h.now in
      kept (subst (KeepsKinds (content_of a.nodes t.entries)) (sym same) (KeepsKinds-refl (content_of a.nodes t.entries))) (ap (λ z. z.universe) e) (ap (λ z. z.hidden) e)

  pub added_keeps : (v : Variable) → w.entries ≡ added t.entries v → StepKeeps a b t w
  added_keeps v e =
      let same : content_of b.nodes w.entries ≡ with_slot (content_of a.nodes t.entries) (slot_of b.nodes v) = ap (content_of b.nodes) e ∙ content_of-added b.nodes t.entries v ∙ ap (λ z. with_slot z (slot_of b.nodes v)) (content_of-extended g.extends h.now) in
      kept (subst (KeepsKinds (content_of a.nodes t.entries)) (sym same) (KeepsKinds-with_slot (content_of a.nodes t.entries) (slot_of b.nodes v))) (ap (λ z. z.universe) e) (ap (λ z. z.hidden) e)

pub value_keeps : (a b : Cx) (t w : Table) (k : PositionKind) (u : ℕ) (vs : List Tree) → IsTable a.nodes t → IsTable b.nodes w → Grows a b → ChangesEntries t w → AddsValue k u vs t.entries w.entries → StepKeeps a b t w
value_keeps a b t w k u vs h i g changes adds = ⊎_elim
    (λ (e : w.entries ≡ t.entries). none_added a b t w h i g changes e)
    (λ (p : (v : Variable) × (w.entries ≡ added t.entries v)). added_keeps a b t w h i g changes p.0 p.1) (adds_entries k u vs t.entries w.entries adds)

-- the originals are known
pub known_originals : (ts : List Tree) (e : Entries) (c : Content) (xs : List GenericArg) (n : ℕ) → ((t : Tree) → Knows (content_of ts e) t → Knows c t) → All (IsArgOf ts e) xs → Knows c (get_or (trees_of ts xs) n empty)
known_originals ts e c [] n f h = tt
known_originals ts e c (x ∷ xs) zero f h = (let y = h 0 x (omega arith) in f (tree_at ts x.node) y.known)
known_originals ts e c (x ∷ xs) (suc n) f h = known_originals ts e c xs n f (λ j d l. h (suc j) d (omega (arith, l)))

pub original_sort : (ts : List Tree) (xs : List GenericArg) (k : PositionKind) (n : ℕ) (d : GenericArg) → n < length xs → NamesOriginal (trees_of ts xs) k → original_named k ≡ Some n → HasSort k (tree_at ts (get_or xs n d).node)
original_sort ts xs (placeholder s zero i) n d l h e =
    let same : i ≡ n = cc in
    subst (λ z. kind_of z ≡ Some (of_sort s)) (get_or-map (λ (x : GenericArg). tree_at ts x.node) xs n d empty l) (subst (λ j. kind_of (get_or (trees_of ts xs) j empty) ≡ Some (of_sort s)) same h)
original_sort ts xs (placeholder s (suc u) i) n d l h e = cc
original_sort ts xs (type_variable u r) n d l h e = cc
original_sort ts xs integer_variable n d l h e = cc
original_sort ts xs float_variable n d l h e = cc
original_sort ts xs (const_variable u) n d l h e = cc
original_sort ts xs (region_variable u) n d l h e = cc

-- .. a term of the table, of the position's sort
pub made_known : (p : ℕ) (os : List Tree) (k : PositionKind) (x : Tree) (c d : Content) → ((n : ℕ) → Knows d (get_or os n empty)) → c.universe ≤ d.universe → IsMadeForPosition p os k x c d → Knows d x
made_known p os (type_variable v r) x c d k l h = new_knows c d (p + v) kind.Ty x h
made_known p os integer_variable x c d k l h = new_knows c d 0 kind.Int x h
made_known p os float_variable x c d k l h = new_knows c d 0 kind.Float x h
made_known p os (const_variable v) x c d k l h = new_knows c d (p + v) kind.Const x h
made_known p os (region_variable v) x c d k l h = new_knows c d (p + v) kind.Region x h
made_known p os (placeholder s zero n) x c d k l (q, b, e) = rw q (k n)
made_known p os (placeholder sort.Ty (suc v) n) x c d k l (q, b, e) = rw q ((tt, omega (arith, b, l), refl), tt, tt)
made_known p os (placeholder sort.Const (suc v) n) x c d k l (q, b, e) = rw q ((tt, omega (arith, b, l), refl), tt, tt)
made_known p os (placeholder sort.Region (suc v) n) x c d k l (q, b, e) = rw q ((tt, omega (arith, b, l), refl), tt, tt)

pub made_sort : (p : ℕ) (os : List Tree) (k : PositionKind) (x : Tree) (c d : Content) → NamesOriginal os k → IsMadeForPosition p os k x c d → HasSort k x
made_sort p os (type_variable v r) x c d o h = rw h.tree refl
made_sort p os integer_variable x c d o h = rw h.tree refl
made_sort p os float_variable x c d o h = rw h.tree refl
made_sort p os (const_variable v) x c d o h = rw h.tree refl
made_sort p os (region_variable v) x c d o h = rw h.tree refl
made_sort p os (placeholder s zero n) x c d o (q, b, e) = rw q o
made_sort p os (placeholder sort.Ty (suc v) n) x c d o (q, b, e) = rw q refl
made_sort p os (placeholder sort.Const (suc v) n) x c d o (q, b, e) = rw q refl
made_sort p os (placeholder sort.Region (suc v) n) x c d o (q, b, e) = rw q refl

-- what is made, or guessed, is chosen
pub made_chosen : (c : Content) (values os : List Tree) (b : ℕ) (k : PositionKind) (x : Tree) (d e : Content) → IsMadeForPosition c.universe os k x d e → Chooses c values os b k x d e
made_chosen c values os b (type_variable u r) x d e h = inl h
made_chosen c values os b integer_variable x d e h = inl h
made_chosen c values os b float_variable x d e h = inl h
made_chosen c values os b (const_variable u) x d e h = inl h
made_chosen c values os b (region_variable u) x d e h = inl h
made_chosen c values os b (placeholder s u n) x d e h = h

pub guess_chosen : (c : Content) (values os : List Tree) (b : ℕ) (k : PositionKind) (x : Tree) (d e : Content) → e ≡ d → GuessFits c values os b k x → Chooses c values os b k x d e
guess_chosen c values os b (type_variable u r) x d e q h = absurd h
guess_chosen c values os b integer_variable x d e q h = inr (h, q)
guess_chosen c values os b float_variable x d e q h = inr (h, q)
guess_chosen c values os b (const_variable u) x d e q h = inr (h, q)
guess_chosen c values os b (region_variable u) x d e q h = inr (h, q)
guess_chosen c values os b (placeholder s u n) x d e q h = absurd h

pub guess_known : (c : Content) (values os : List Tree) (b : ℕ) (k : PositionKind) (x : Tree) → GuessFits c values os b k x → Knows c x
guess_known c values os b (type_variable u r) x h = absurd h
guess_known c values os b integer_variable x h = h.knows
guess_known c values os b float_variable x h = h.knows
guess_known c values os b (const_variable u) x h = h.knows
guess_known c values os b (region_variable u) x h = h.knows
guess_known c values os b (placeholder s u n) x h = absurd h

-- one position more
pub choose_more : (c : Content) (values os : List Tree) (b i : ℕ) (ks : List PositionKind) (k : PositionKind) (ts : List Tree) (t : Tree) (d e f : Content) → i ≡ b + length ks → ChoosesAll c values os b ks ts d e → Chooses c values os i k t e f → ChoosesAll c values os b (ks ++ k ∷ []) (ts ++ t ∷ []) d f
choose_more c values os b i [] k [] t d e f q h x =
    let same : i ≡ b = omega (arith, q) in
    (f, subst (λ j. Chooses c values os j k t d f) same (subst (λ z. Chooses c values os i k t z f) h x), refl)
choose_more c values os b i [] k (s ∷ ts) t d e f q h x = absurd h
choose_more c values os b i (j ∷ ks) k [] t d e f q h x = absurd h
choose_more c values os b i (j ∷ ks) k (s ∷ ts) t d e f q (m, one, rest) x = (m, one, choose_more c values os (suc b) i ks k ts t m e f (omega (arith, q)) rest x)

pub sorts_more : (ks : List PositionKind) (k : PositionKind) (ts : List Tree) (t : Tree) → PositionsHaveSorts ks ts → HasSort k t → PositionsHaveSorts (ks ++ k ∷ []) (ts ++ t ∷ [])
sorts_more [] k [] t h x = (x, tt)
sorts_more [] k (s ∷ ts) t h x = absurd h
sorts_more (j ∷ ks) k [] t h x = absurd h
sorts_more (j ∷ ks) k (s ∷ ts) t h x = (h.0, sorts_more ks k ts t h.1 x)

pub guess_sort : (c : Content) (values os : List Tree) (b : ℕ) (k : PositionKind) (x : Tree) → GuessFits c values os b k x → HasSort k x
guess_sort c values os b (type_variable u r) x h = absurd h
guess_sort c values os b integer_variable x h = (let v = h.value in Fits-kind_of kind.Int x v.fits)
guess_sort c values os b float_variable x h = (let v = h.value in Fits-kind_of kind.Float x v.fits)
guess_sort c values os b (const_variable u) x h = (let v = h.value in Fits-kind_of kind.Const x v.fits)
guess_sort c values os b (region_variable u) x h = (let v = h.value in Fits-kind_of kind.Region x v.fits)
guess_sort c values os b (placeholder s u n) x h = absurd h

as_many : (ks : List PositionKind) (ts : List Tree) → PositionsHaveSorts ks ts → length ts ≡ length ks
as_many [] [] h = refl
as_many [] (t ∷ ts) h = absurd h
as_many (k ∷ ks) [] h = absurd h
as_many (k ∷ ks) (t ∷ ts) h = ap suc (as_many ks ts h.1)

-- what was chosen for the positions of these kinds
pub record ChosenSoFar (a b : Cx) (t u : Table) (p : ℕ) (values os : List Tree) (ks : List CanonicalVarKind) (xs : List GenericArg) : Type 0 where
  pub chosen : ChoosesAll (content_within a.nodes t.entries p) values os 0 (map kind_of_var ks) (trees_of b.nodes xs) (content_of a.nodes t.entries) (content_of b.nodes u.entries)
  pub args : All (IsArgOf b.nodes u.entries) xs
  pub sorts : PositionsHaveSorts (map kind_of_var ks) (trees_of b.nodes xs)
  pub placed : JoinsNew (ArePlaced (map kind_of_var ks) (trees_of b.nodes xs)) (content_of a.nodes t.entries) (content_of b.nodes u.entries)
  pub keeps : StepKeeps a b t u

pub none_chosen : (a : Cx) (t : Table) (p : ℕ) (values os : List Tree) → IsTable a.nodes t → ChosenSoFar a a t t p values os [] []
none_chosen a t p values os h = record { chosen = refl; args = λ i d l. absurd (omega (arith, l)); sorts = tt; placed = placed_none (content_of a.nodes t.entries); keeps = step_none a t h }

-- one position more
pub one_chosen : (a b c : Cx) (t u v : Table) (p : ℕ) (values os : List Tree) (ks : List CanonicalVarKind) (xs zs : List GenericArg) (i : ℕ) (k : CanonicalVarKind) (x : GenericArg) → i < length ks → ChosenSoFar a b t u p values os (take i ks) xs → StepKeeps b c u v → IsArgOf c.nodes v.entries x
    → HasSort (kind_of_var (get_or ks i k)) (tree_at c.nodes x.node) → Chooses (content_within a.nodes t.entries p) values os i (kind_of_var (get_or ks i k)) (tree_at c.nodes x.node) (content_of b.nodes u.entries) (content_of c.nodes v.entries)
    → JoinsNew (IsPlacedNext (kind_of_var (get_or ks i k)) (trees_of b.nodes xs) (tree_at c.nodes x.node)) (content_of b.nodes u.entries) (content_of c.nodes v.entries) → zs ≡ xs ++ x ∷ []
    → ChosenSoFar a c t v p values os (take (i + 1) ks) zs
one_chosen a b c t u v p values os ks xs zs i k x l h s arg sort choice next q =
    let item = get_or ks i k in
    let g = s.grows in
    let held : All (HoldsArg b.nodes) xs = λ j d m. (let y = h.args j d m in y.holds) in
    let trees : trees_of c.nodes zs ≡ trees_of b.nodes xs ++ tree_at c.nodes x.node ∷ [] = ap (trees_of c.nodes) q ∙ map-push (argument_value c.nodes) xs x ∙ ap (λ ts. ts ++ tree_at c.nodes x.node ∷ []) (same_views HoldsArg argument_value values_kept b.nodes c.nodes xs held g.extends) in
    let kinds : map kind_of_var (take (i + 1) ks) ≡ map kind_of_var (take i ks) ++ kind_of_var item ∷ [] = ap (map kind_of_var) (take_more ks i k l) ∙ map-push kind_of_var (take i ks) item in
    let long : i ≡ 0 + length (map kind_of_var (take i ks)) = (let m = length-map (take i ks) kind_of_var in let n = length-take-le i ks (omega arith) in omega (arith, m, n)) in
    record {
      chosen = rw (trees, kinds) (choose_more (content_within a.nodes t.entries p) values os 0 i (map kind_of_var (take i ks)) (kind_of_var item) (trees_of b.nodes xs) (tree_at c.nodes x.node) (content_of a.nodes t.entries) (content_of b.nodes u.entries) (content_of c.nodes v.entries) long h.chosen choice);
      args = subst (All (IsArgOf c.nodes v.entries)) (sym q) (All-push (IsArgOf c.nodes v.entries) xs x (λ j d m. arg_later s (h.args j d m)) arg);
      sorts = rw (trees, kinds) (sorts_more (map kind_of_var (take i ks)) (kind_of_var item) (trees_of b.nodes xs) (tree_at c.nodes x.node) h.sorts sort);
      placed = rw (trees, kinds) (placed_more (content_of a.nodes t.entries) (content_of b.nodes u.entries) (content_of c.nodes v.entries) (map kind_of_var (take i ks)) (kind_of_var item) (trees_of b.nodes xs) (tree_at c.nodes x.node) (as_many (map kind_of_var (take i ks)) (trees_of b.nodes xs) h.sorts) h.placed next);
      keeps = step_then h.keeps s;
    }

-- a value was chosen for a position, between the contexts b and c
pub record IsChoice (a b c : Cx) (t u v : Table) (p : ℕ) (values os xs : List Tree) (i : ℕ) (k : CanonicalVarKind) (x : GenericArg) : Type 0 where
  pub keeps : StepKeeps b c u v
  pub arg : IsArgOf c.nodes v.entries x
  pub sort : HasSort (kind_of_var k) (tree_at c.nodes x.node)
  pub chosen : Chooses (content_within a.nodes t.entries p) values os i (kind_of_var k) (tree_at c.nodes x.node) (content_of b.nodes u.entries) (content_of c.nodes v.entries)
  pub placed : JoinsNew (IsPlacedNext (kind_of_var k) xs (tree_at c.nodes x.node)) (content_of b.nodes u.entries) (content_of c.nodes v.entries)

-- an original is an argument of the table later
known_in : (a b : Cx) (t u : Table) (p : ℕ) (x : Tree) → p ≤ t.entries.universe → StepKeeps a b t u → Knows (content_within a.nodes t.entries p) x → Knows (content_of b.nodes u.entries) x
known_in a b t u p x l s h =
    let k = s.kinds in
    let g : t.entries.universe ≤ u.entries.universe = k.grows in
    Knows-kept (content_within a.nodes t.entries p) (content_of b.nodes u.entries) x (record { grows = omega (arith, l, g); kinds = k.kinds }) h

pub original_arg : (a b : Cx) (t u : Table) (p : ℕ) (x : GenericArg) → p ≤ t.entries.universe → StepKeeps a b t u → IsOriginal a.nodes (content_within a.nodes t.entries p) x → IsArgOf b.nodes u.entries x
original_arg a b t u p x l s h =
    let held = h.holds in
    let g = s.grows in
    let e = g.extends in
    record { holds = holds_kept _ a.nodes b.nodes x.node held e; known = rw (e.kept x.node held.within) (known_in a b t u p (tree_at a.nodes x.node) l s h.knows) }

-- a guess
pub guess_choice : (a b : Cx) (t u : Table) (p : ℕ) (values os xs : List Tree) (ks : List CanonicalVarKind) (gs : List (Option GenericArg)) (i : ℕ) (k : CanonicalVarKind) (x : GenericArg) → AreGuesses a.nodes (content_within a.nodes t.entries p) values os ks gs → slice_get ks i ≡ Some k → slice_get gs i ≡ Some (Some x)
    → p ≤ t.entries.universe → StepKeeps a b t u → IsChoice a b b t u u p values os xs i k x
guess_choice a b t u p values os xs ks gs i k x h at is l s =
    let fits = h.each i k (Some x) at is in
    let held = fits.0 in
    let g = s.grows in
    let e = g.extends in
    let same : tree_at b.nodes x.node ≡ tree_at a.nodes x.node = e.kept x.node held.within in
    let c = content_within a.nodes t.entries p in
    record {
      keeps = step_none b u s.table;
      arg = record { holds = holds_kept _ a.nodes b.nodes x.node held e; known = rw same (known_in a b t u p (tree_at a.nodes x.node) l s (guess_known c values os i (kind_of_var k) (tree_at a.nodes x.node) fits.1)) };
      sort = subst (HasSort (kind_of_var k)) (sym same) (guess_sort c values os i (kind_of_var k) (tree_at a.nodes x.node) fits.1);
      chosen = subst (λ z. Chooses c values os i (kind_of_var k) z (content_of b.nodes u.entries) (content_of b.nodes u.entries)) (sym same) (guess_chosen c values os i (kind_of_var k) (tree_at a.nodes x.node) (content_of b.nodes u.entries) (content_of b.nodes u.entries) refl fits.1);
      placed = (let table = s.table in guess_placed b.nodes b.nodes u.entries u.entries table.now (Extends-refl b.nodes) c values os i (kind_of_var k) xs (tree_at b.nodes x.node) (subst (GuessFits c values os i (kind_of_var k)) (sym same) fits.1) refl);
    }

-- .. or what was made
pub made_choice : (a b c : Cx) (t u v : Table) (p : ℕ) (values os zs xs : List Tree) (i : ℕ) (k : CanonicalVarKind) (x : GenericArg) → zs ≡ os → StepKeeps b c u v → IsArgOf c.nodes v.entries x → HasSort (kind_of_var k) (tree_at c.nodes x.node)
    → IsMadeForPosition p zs (kind_of_var k) (tree_at c.nodes x.node) (content_of b.nodes u.entries) (content_of c.nodes v.entries)
    → JoinsNew (IsPlacedNext (kind_of_var k) xs (tree_at c.nodes x.node)) (content_of b.nodes u.entries) (content_of c.nodes v.entries) → IsChoice a b c t u v p values os xs i k x
made_choice a b c t u v p values os zs xs i k x same s arg sort h placed = record {
  keeps = s;
  arg = arg;
  sort = sort;
  chosen = made_chosen (content_within a.nodes t.entries p) values os i (kind_of_var k) (tree_at c.nodes x.node) (content_of b.nodes u.entries) (content_of c.nodes v.entries) (subst (λ ws. IsMadeForPosition p ws (kind_of_var k) (tree_at c.nodes x.node) (content_of b.nodes u.entries) (content_of c.nodes v.entries)) same h);
  placed = placed;
}

-- the originals in a store that has grown
pub originals_kept : (a b : Cx) (t u : Table) (c : Content) (xs : List GenericArg) → StepKeeps a b t u → All (IsOriginal a.nodes c) xs → trees_of b.nodes xs ≡ trees_of a.nodes xs
originals_kept a b t u c xs s h = (let g = s.grows in same_views HoldsArg argument_value values_kept a.nodes b.nodes xs (λ j d m. (let y = h j d m in y.holds)) g.extends)

past_trees : (ts : List Tree) (xs : List GenericArg) (n : ℕ) → length xs ≤ n → get_or (trees_of ts xs) n empty ≡ empty
past_trees ts [] n l = refl
past_trees ts (x ∷ xs) zero l = absurd (omega (arith, l))
past_trees ts (x ∷ xs) (suc n) l = past_trees ts xs n (omega (arith, l))

pub original_within : (ts : List Tree) (xs : List GenericArg) (k : PositionKind) (n : ℕ) → NamesOriginal (trees_of ts xs) k → original_named k ≡ Some n → n < length xs
original_within ts xs (placeholder s zero i) n h e = ⊎_elim (λ l. l)
    (λ (l : length xs ≤ n). (let same : i ≡ n = cc in
    let none : kind_of (get_or (trees_of ts xs) i empty) ≡ None = ap kind_of (ap (λ j. get_or (trees_of ts xs) j empty) same ∙ past_trees ts xs n l) in
    let z : None ≡ Some (of_sort s) = sym none ∙ h in absurd (cc z))) (cases_lt n (length xs))
original_within ts xs (placeholder s (suc u) i) n h e = cc
original_within ts xs (type_variable u r) n h e = cc
original_within ts xs integer_variable n h e = cc
original_within ts xs float_variable n h e = cc
original_within ts xs (const_variable u) n h e = cc
original_within ts xs (region_variable u) n h e = cc

-- memory ran out: nothing is chosen
pub chooses_none : {T : Type 0} (P Q R S : T → Type 0) (K : Type 0) (r : Result T Fault) → IsErrAnd r (λ e. e ≡ Memory) → K
    → record { chosen : IfOk r P; args : IfOk r Q; placed : IfOk r R; sorts : IfOk r S; keeps : K; memory : IsOkUnless r Memory }
chooses_none P Q R S K (Ok x) h keeps = absurd h
chooses_none P Q R S K (Err e) h keeps = record { chosen = tt; args = tt; placed = tt; sorts = tt; keeps = keeps; memory = h }
