-- The arguments of two lists, related one after another.
use Rattle.std.proofs.Common.{◌≡◌, inl, ℕ, zero, suc, ◌+◌, ◌<◌, ◌≤◌, List, [], ◌∷◌, ◌++◌, Some, refl, ap, ◌∙◌, subst, arith}
use Rattle.nts_variance.proofs.Passes.{pass_joined}
use Rattle.nts_model.specs.declared.labels.Variance.{Variance}
use Rattle.nts_model.specs.declared.labels.Variance.TheVariants as variance
use Rattle.nts_model.specs.Terms.Trees.{Tree, empty, more, node, children, row_length, row_at, IsRow, AllFit, any_argument, kind_of, arguments}
use Rattle.nts_model.specs.Tables.Contents.{Content}
use Rattle.nts_model.specs.Tables.Resolving.{IsSound, Knows}
use Rattle.nts_model.specs.Derivations.Related.{rest_variances}
use Rattle.nts_variance_model.specs.Variances.Forms.{a_constructor, pairs_over}
use Rattle.nts_variance_model.specs.Variances.Leaving.{Refuses}
use Rattle.nts_variance_model.specs.Variances.Relations.{Relating as Pair, ArePairsKnown}
use Rattle.nts_model.proofs.Tables.Held.{Continues-refl, Continues-trans}
use Rattle.nts_model.proofs.Tables.Resolved.{Knows-row_at}
use Rattle.nts_store.specs.declared.nodes.NodeId.{NodeId}
use Rattle.nts_store.specs.Growth.{tree_at, IsIn, Extends}
use Rattle.nts_store.specs.Sorts.{ChildrenFit}
use Rattle.nts_unify.specs.Entries.{Entries}
use Rattle.nts_unify.specs.Reading.{content_of, IsLawful}
use Rattle.nts_terms.proofs.Standing.{args_tree}
use Rattle.nts_unify.specs.Knowing.{row_from}
use Rattle.nts_unify.proofs.Looking.{row_from-end, row_from-step}
use Rattle.nts_variance.specs.declared.along.Relating.{Relating}
use Rattle.nts_variance.specs.Terms.{pair_at, pairs_at}
use Rattle.nts_variance.specs.Taking.{Takes, IsPairSide}
use Rattle.nts_variance.specs.Equating.{GoalsRelate}
use Rattle.nts_variance.specs.Rows.{IsListOf, row_pairs, argument_pairs, RowsRelate, AreRelatedTo}
use Rattle.nts_variance.proofs.Calls.{pairs_joined, joined_at}
use Rattle.nts_variance.proofs.Debts.{goals_to, AreGoals-append}
use Rattle.nts_variance.proofs.Dues.{aliases_append, due_aliases, no_variables}
use Rattle.nts_variance.proofs.Growing.{grown_refl, grown_trans, Knows-grown}
use Rattle.nts_variance.proofs.PlainTerms.{stays_none, stays_then, pairs_stay}
use Rattle.nts_variance.proofs.Pairs.{Leaves-none, Leaves-then, Leaves-beside, Refuses-then, Refuses-beside}
use Rattle.nts_variance.proofs.Pushing.{part_sorted}
use Rattle.nts_variance.proofs.Turns.{answered_front}
use Rattle.nts_variance.proofs.VaryTurns.{known_pairs, goals_later}
use Rattle.nts_relating.proofs.PairLemmas.{Knows-children as children_known}

-- the arguments of a list are sides
list_fits : (t : Tree) → kind_of t ≡ Some arguments → ChildrenFit t → AllFit any_argument (children t)
list_fits t e f = subst ChildrenFit (args_tree t e) f

pub argument_side : {ts us : List Tree} {c d : Content} (t a : NodeId) (i : ℕ) → IsListOf ts c t → (Knows c (tree_at ts t) → Knows d (tree_at ts t)) → ChildrenFit (tree_at ts t) → i < row_length (children (tree_at ts t)) → IsIn us a → tree_at us a ≡ row_at (children (tree_at ts t)) i → IsPairSide us d a
argument_side {ts} {us} {c} {d} t a i whole later fits less within at =
    let row = children (tree_at ts t) in
    let sorted = part_sorted (a_constructor 0) row i (list_fits (tree_at ts t) whole.kind fits) less in
    let knows : Knows d (row_at row i) = Knows-row_at d row i (children_known d (tree_at ts t) (later whole.knows)) in
    record { within = within; knows = rw at knows; sort = sorted.sort; kind = rw at sorted.kind }

-- pairs of rows of the table
rows_known : (c : Content) (v : Variance) (ws : List Variance) (a b : Tree) → Knows c a → Knows c b → ArePairsKnown c (pairs_over v ws a b)
rows_known c v ws empty b h k = tt
rows_known c v ws (node l x) b h k = tt
rows_known c v ws (more x a) empty h k = tt
rows_known c v ws (more x a) (node l y) h k = tt
rows_known c v ws (more x a) (more y b) h k = (h.0, k.0, rows_known c v (rest_variances ws) a b h.1 k.1)

row_from_known : (c : Content) (i : ℕ) (a : Tree) → Knows c a → Knows c (row_from i a)
row_from_known c zero a h = h
row_from_known c (suc i) empty h = tt
row_from_known c (suc i) (more x a) h = row_from_known c i a h.1
row_from_known c (suc i) (node l x) h = tt

module _ (declared : ℕ → List Variance) where
  -- nothing taken, and the first pair of those left
  takes_none : (c : Content) (ps : List Pair) → IsSound c → Takes declared c c ps ps []
  takes_none c ps sound = record { later = grown_refl c; continues = Continues-refl c sound; leaves = Leaves-none declared c ps; relates = record { related = λ f s on ks g h. h }; passes = λ P p h i. (h, i, tt); plain = λ h. (stays_none c, h) }

  takes_then : (c d e : Content) (ps : List Pair) (q : Pair) (qs gs hs : List Pair) → IsSound c → IsSound d → ArePairsKnown d qs → ArePairsKnown d gs → Takes declared c d ps (q ∷ qs) gs → Takes declared d e (q ∷ []) [] hs → Takes declared c e ps qs (gs ++ hs)
  takes_then c d e ps q qs gs hs first sound kq kg a b =
      record {
        later = grown_trans a.later b.later;
        continues = Continues-trans c d e first a.continues b.continues;
        leaves = Leaves-then declared c d e ps (q ∷ qs) qs gs hs kg a.leaves (Leaves-beside declared d e (q ∷ []) [] qs hs kq b.leaves);
        relates = record {
          related = λ f s on ks g h.
              (let parts = answered_front f ks gs hs g in
              let one = b.relates.related f s on ks parts.1 tt in
              a.relates.related f s (Continues-trans d e f sound b.continues on) ks parts.0 (one.0, h));
        };
        plain = λ h.
            (let x = a.plain h in
            let left = x.1 in
            let y = b.plain (left.0, tt) in
            let stays = y.0 in
            (stays_then c d e a.later b.later b.continues x.0 stays, pairs_stay d e qs stays.keeps kq left.1));
        passes = λ P p h i. (let x = a.passes P p h i in let left = x.1 in let y = b.passes P p x.0 (left.0, left.1, tt) in (y.0, left.2, pass_joined P gs hs x.2 y.2));
      }

  pub rows_start : (ts : List Tree) (e : Entries) (a b : Tree) (gs : List Relating) → IsLawful ts e → gs ≡ [] → AreRelatedTo declared ts ts e e a b 0 gs
  rows_start ts e a b gs lawful none =
      rw none (record { lawful = lawful; place = omega arith; known = tt; are_goals = tt; takes = takes_none (content_of ts e) (argument_pairs a b) lawful.sound; due = tt })

  -- the pair at the next place
  next_pair : (us : List Tree) (a b : Tree) (i : ℕ) (p : Relating) → i < row_length (children a) → i < row_length (children b) → p.variance ≡ variance.Invariant → tree_at us p.left ≡ row_at (children a) i → tree_at us p.right ≡ row_at (children b) i
      → row_pairs (row_from i (children a)) (row_from i (children b)) ≡ pair_at us p ∷ row_pairs (row_from (i + 1) (children a)) (row_from (i + 1) (children b))
  next_pair us a b i p less short invariant left right =
      rw (row_from-step (children a) i less, row_from-step (children b) i short, invariant, left, right) refl

  pub rows_step : (ts us ws : List Tree) (e f g : Entries) (a b : Tree) (i k : ℕ) (p : Relating) (gs hs is : List Relating) → AreRelatedTo declared ts us e f a b i gs → IsSound (content_of ts e) → Knows (content_of ts e) a → Knows (content_of ts e) b
      → i < row_length (children a) → i < row_length (children b) → p.variance ≡ variance.Invariant → tree_at us p.left ≡ row_at (children a) i → tree_at us p.right ≡ row_at (children b) i
      → Extends us ws → IsLawful ws g → GoalsRelate declared us ws f g p hs → k ≡ i + 1 → is ≡ gs ++ hs → AreRelatedTo declared ts ws e g a b k is
  rows_step ts us ws e f g a b i k p gs hs is u sound ka kb less short invariant left right ext lawful r next all =
      let c = content_of ts e in
      let d = content_of us f in
      let m = content_of ws g in
      let t = r.takes in
      let rest = row_pairs (row_from (i + 1) (children a)) (row_from (i + 1) (children b)) in
      let before : Takes declared c d (argument_pairs a b) (pair_at us p ∷ rest) (pairs_at us gs) = rw (next_pair us a b i p less short invariant left right) at u.takes in
      let grown = u.takes.later in
      let known : ArePairsKnown d rest = rows_known d variance.Invariant [] (row_from (i + 1) (children a)) (row_from (i + 1) (children b)) (row_from_known d (i + 1) (children a) (children_known d a (Knows-grown a grown ka))) (row_from_known d (i + 1) (children b) (children_known d b (Knows-grown b grown kb))) in
      let taken = takes_then c d m (argument_pairs a b) (pair_at us p) rest (pairs_at us gs) (pairs_at ws hs) sound u.lawful.sound known (known_pairs us d gs u.known) before t in
      rw next (record {
        lawful = lawful;
        place = omega (arith, less);
        known = rw all (pairs_joined ws m gs hs (goals_later gs ext t.later u.known) r.known);
        are_goals = goals_to (joined_at d gs hs is ext u.known all) (AreGoals-append (pairs_at us gs) (pairs_at ws hs) u.are_goals r.are_goals);
        takes = rw (joined_at d gs hs is ext u.known all) taken;
        due = rw (joined_at d gs hs is ext u.known all) (aliases_append (pairs_at us gs) (pairs_at ws hs) u.due (due_aliases m (pairs_at ws hs) (r.due no_variables (omega arith) (inl invariant))));
      })

  -- no solution relates the pair at the next place
  pub rows_refused : (ts us : List Tree) (e f : Entries) (a b : Tree) (i : ℕ) (p : Relating) (gs : List Relating) → AreRelatedTo declared ts us e f a b i gs → i < row_length (children a) → i < row_length (children b) → p.variance ≡ variance.Invariant
      → tree_at us p.left ≡ row_at (children a) i → tree_at us p.right ≡ row_at (children b) i → Refuses declared (content_of us f) (pair_at us p ∷ []) → Refuses declared (content_of ts e) (argument_pairs a b)
  rows_refused ts us e f a b i p gs u less short invariant left right r =
      let c = content_of ts e in
      let d = content_of us f in
      let rest = row_pairs (row_from (i + 1) (children a)) (row_from (i + 1) (children b)) in
      let before : Takes declared c d (argument_pairs a b) (pair_at us p ∷ rest) (pairs_at us gs) = rw (next_pair us a b i p less short invariant left right) at u.takes in
      Refuses-then declared c d (argument_pairs a b) (pair_at us p ∷ rest) (pairs_at us gs) before.leaves (Refuses-beside declared d (pair_at us p ∷ []) rest r)

  -- none is left
  pub rows_end : (ts us : List Tree) (e f : Entries) (a b : Tree) (i : ℕ) (gs : List Relating) → AreRelatedTo declared ts us e f a b i gs → IsRow (children a) → row_length (children a) ≡ row_length (children b) → row_length (children a) ≤ i → RowsRelate declared ts us e f a b gs
  rows_end ts us e f a b i gs u row long last =
      let place = u.place in
      let here : i ≡ row_length (children a) = omega (arith, place, last) in
      let none : row_from i (children a) ≡ empty = ap (λ n. row_from n (children a)) here ∙ row_from-end (children a) row in
      let end : Takes declared (content_of ts e) (content_of us f) (argument_pairs a b) [] (pairs_at us gs) = rw none at u.takes in
      record { long = long; known = u.known; are_goals = u.are_goals; takes = end; due = u.due }
