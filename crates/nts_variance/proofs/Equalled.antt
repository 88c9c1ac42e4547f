-- One pair that is to be made equal was taken.
use Rattle.std.proofs.Common.{◌≡◌, ℕ, ◌+◌, ◌<◌, ◌≤◌, Bool, true, false, List, [], ◌∷◌, ◌++◌, sym, ap, ◌∙◌, subst, arith}
use Rattle.std.proofs.lemmas.List.{append-nil}
use Rattle.nts_model.specs.declared.labels.Variance.{Variance}
use Rattle.nts_model.specs.declared.labels.Variance.TheVariants as variance
use Rattle.nts_model.specs.Terms.Trees.{Tree, size, IsFormed}
use Rattle.nts_model.specs.Tables.Contents.{Content}
use Rattle.nts_model.specs.Tables.Resolving.{Knows, resolved}
use Rattle.nts_model.specs.Lists.{Among}
use Rattle.nts_variance_model.specs.Variances.Relations.{Relating as Pair}
use Rattle.nts_variance_model.specs.Variances.Forms.{over, variances_over, FitsForm, pairs_over}
use Rattle.nts_model.specs.Tables.Measuring.{closed_aliases}
use Rattle.nts_store.specs.Growth.{tree_at, Extends}
use Rattle.nts_store.proofs.Growing.{Extends-refl}
use Rattle.nts_unify.specs.Entries.{Entries}
use Rattle.nts_unify.specs.Reading.{content_of, IsLawful}
use Rattle.nts_unify.specs.Changing.{KeepsKnowing, unset_count}
use Rattle.nts_unify.proofs.Keeping.{KeepsKnowing-refl}
use Rattle.nts_variance.specs.declared.along.Relating.{Relating}
use Rattle.nts_variance.specs.Steps.{stacked}
use Rattle.nts_variance.specs.Parts.{form_of_tree, parts_of}
use Rattle.nts_variance.specs.Terms.{pair_at, pairs_at, ArePairs, IsGoal, AreGoals}
use Rattle.nts_variance.specs.Taking.{Takes, IsPair, ArePairsLeft, AreOfOneForm, ArePartsPaired}
use Rattle.nts_variance.specs.declared.equating.Heads.{Heads}
use Rattle.nts_variance.specs.Equating.{ArePairHeads, AreToBeOne, AreInvariant, aliases_of, sizes_of, unsolved, ArePairsReady, IsOn, IsEqualStep}
use Rattle.nts_variance.proofs.Calls.{pairs_front, pairs_later, stacked_kept, known_stack, pair_known, call_taken, call_left, call_parts, call_passed}
use Rattle.nts_variance.proofs.Exact.{AllInvariant, parts_invariant, stands_to_be_one}
use Rattle.nts_variance.proofs.Lessening.{over_larger, over_aliases, aliases_joined, sizes_joined, sizes_row, aliases_row, aliases_same, sizes_same, unsolved_same}
use Rattle.nts_variance.proofs.Pairing.{pairs_push}
use Rattle.nts_variance.proofs.Runs.{stacked-push}
use Rattle.nts_variance.proofs.Standing.{Standing, call_stands}
use Rattle.nts_variance.proofs.Underway.{takes_owed}

-- the variances of pairs
invariant_joined : (xs ys : List Pair) → AllInvariant xs → AllInvariant ys → AllInvariant (xs ++ ys)
invariant_joined [] ys a b = b
invariant_joined (x ∷ xs) ys a b = (a.0, invariant_joined xs ys a.1 b)

invariant_parted : (xs ys : List Pair) → AllInvariant (xs ++ ys) → AllInvariant xs × AllInvariant ys
invariant_parted [] ys a = (tt, a)
invariant_parted (x ∷ xs) ys a = (let r = invariant_parted xs ys a.1 in ((a.0, r.0), r.1))

invariant_stack : (ts : List Tree) (xs : List Relating) → AreInvariant xs → AllInvariant (stacked (pair_at ts) xs)
invariant_stack ts [] h = tt
invariant_stack ts (x ∷ xs) h = invariant_joined (stacked (pair_at ts) xs) (pair_at ts x ∷ []) (invariant_stack ts xs h.1) (h.0, tt)

invariant_back : (ts : List Tree) (xs : List Relating) → AllInvariant (stacked (pair_at ts) xs) → AreInvariant xs
invariant_back ts [] h = tt
invariant_back ts (x ∷ xs) h = (let r = invariant_parted (stacked (pair_at ts) xs) (pair_at ts x ∷ []) h in (r.1.0, invariant_back ts xs r.0))

-- the last pair
unsolved_last : (ts : List Tree) (c : Content) (ps : List Relating) (q : Relating) → unsolved c (stacked (pair_at ts) (ps ++ q ∷ [])) ≡ unsolved c (stacked (pair_at ts) ps) + closed_aliases (resolved c (tree_at ts q.left)) + closed_aliases (resolved c (tree_at ts q.right))
unsolved_last ts c ps q = rw (stacked-push (pair_at ts) ps q) (omega arith)

sizes_last : (ts : List Tree) (c : Content) (ps : List Relating) (q : Relating) → sizes_of c (stacked (pair_at ts) (ps ++ q ∷ [])) ≡ sizes_of c (stacked (pair_at ts) ps) + size (resolved c (tree_at ts q.left)) + 1
sizes_last ts c ps q = rw (stacked-push (pair_at ts) ps q) (omega arith)

pub heads_one : (ts : List Tree) (e : Entries) (q : Relating) (h : Heads) → ArePairHeads ts e q h → AreToBeOne (content_of ts e) q.variance (tree_at ts q.left) (tree_at ts q.right) → AreToBeOne (content_of ts e) h.pair.variance (tree_at ts h.pair.left) (tree_at ts h.pair.right)
heads_one ts e q h k one =
    subst (λ v. AreToBeOne (content_of ts e) v (tree_at ts h.pair.left) (tree_at ts h.pair.right)) (sym k.kept)
    (stands_to_be_one (content_of ts e) q.variance (tree_at ts q.left) (tree_at ts q.right) (tree_at ts h.pair.left) (tree_at ts h.pair.right) k.on_left k.on_right one)

module _ (declared : ℕ → List Variance) where
  pub ready_front : (ts : List Tree) (e : Entries) (ps : List Relating) (q : Relating) → ArePairsReady ts e (ps ++ q ∷ []) → ArePairsLeft ts (content_of ts e) ps × IsPair ts (content_of ts e) q
  ready_front ts e ps q r = pairs_front ts (content_of ts e) ps q r.pairs

  -- a pair and its heads
  pub heads_standing : (ts : List Tree) (e : Entries) (ps : List Relating) (q : Relating) (h : Heads) → ArePairsReady ts e (ps ++ q ∷ []) → ArePairHeads ts e q h → Standing declared ts e q h.pair
  heads_standing ts e ps q h r k = record { own = (ready_front ts e ps q r).1; known = k.heads.known; kept = k.kept; on_left = k.on_left; on_right = k.on_right }

  pub heads_ready : (ts : List Tree) (e : Entries) (ps : List Relating) (q : Relating) (h : Heads) → ArePairsReady ts e (ps ++ q ∷ []) → ArePairHeads ts e q h → ArePairsReady ts e (ps ++ h.pair ∷ [])
  heads_ready ts e ps q h r k = record { lawful = r.lawful; pairs = pairs_push ts (content_of ts e) ps h.pair (ready_front ts e ps q r).0 k.heads.known }

  -- what trees are under the table stayed, and the other pairs are left
  step_kept : (ts us : List Tree) (e f : Entries) (ps : List Relating) (q : Relating) (ms ns gs hs : List Relating) → ArePairsReady ts e (ps ++ q ∷ []) → Extends ts us → KeepsKnowing (content_of ts e) (content_of us f) → IsOn declared ts us e f (ps ++ q ∷ []) ps ms ns gs hs
      → IsEqualStep declared ts us e f ps q ps ms ns gs hs false
  step_kept ts us e f ps q ms ns gs hs r ext keeps on =
      let c = content_of ts e in
      let d = content_of us f in
      let front = pairs_front ts c ps q r.pairs in
      let known = known_stack ts c ps front.0 in
      let same = stacked_kept c ps ext front.0 in
      let whole = unsolved_last ts c ps q in
      let large = sizes_last ts c ps q in
      let count : unsolved d (stacked (pair_at us) ps) ≡ unsolved c (stacked (pair_at ts) ps) = rw same (unsolved_same c d (stacked (pair_at ts) ps) keeps known) in
      let sizes : sizes_of d (stacked (pair_at us) ps) ≡ sizes_of c (stacked (pair_at ts) ps) = rw same (sizes_same c d (stacked (pair_at ts) ps) keeps known) in
      record {
        on = on;
        invariant = λ h. h;
        fewer = λ v (z : false ≡ true). cc;
        smaller = λ q. (omega (arith, sizes, large), omega (arith, count, whole));
      }

  pub step_done : (ts us : List Tree) (e f : Entries) (ps : List Relating) (q : Relating) (ms gs : List Relating) → ArePairsReady ts e (ps ++ q ∷ []) → Extends ts us → IsLawful us f → Takes declared (content_of ts e) (content_of us f) (pair_at ts q ∷ []) [] [] → KeepsKnowing (content_of ts e) (content_of us f)
      → IsEqualStep declared ts us e f ps q ps ms ms gs gs false
  step_done ts us e f ps q ms gs r ext lawful t keeps =
      step_kept ts us e f ps q ms ms gs gs r ext keeps (record {
        ready = record { lawful = lawful; pairs = pairs_later ps ext t.later (pairs_front ts (content_of ts e) ps q r.pairs).0 };
        call = λ start first p es u. call_taken declared start ts us first e f p q ps ms es gs [] [] es gs u ext lawful tt tt tt tt t (sym (append-nil es)) (sym (append-nil gs));
      })

  pub step_owed : (ts : List Tree) (e : Entries) (ps : List Relating) (q : Relating) (ms ns gs hs : List Relating) → ArePairsReady ts e (ps ++ q ∷ []) → IsGoal (pair_at ts q) → hs ≡ gs ++ q ∷ [] → ns ≡ ms ++ q ∷ [] → IsEqualStep declared ts ts e e ps q ps ms ns gs hs false
  step_owed ts e ps q ms ns gs hs r is goals new =
      let c = content_of ts e in
      let lawful = r.lawful in
      let front = pairs_front ts c ps q r.pairs in
      step_kept ts ts e e ps q ms ns gs hs r (Extends-refl ts) (KeepsKnowing-refl c) (record {
        ready = record { lawful = lawful; pairs = front.0 };
        call = λ start first p es u. call_left declared start ts first e p q ps ms ns es gs [] (q ∷ []) es hs u tt tt (pair_known ts c q front.1) (is, tt) (takes_owed declared c (pair_at ts q) lawful.sound) (sym (append-nil es)) goals new;
      })

  pub step_passed : (ts : List Tree) (e : Entries) (ps : List Relating) (q : Relating) (ms ns gs : List Relating) → ArePairsReady ts e (ps ++ q ∷ []) → Among (pairs_at ts ms) (pair_at ts q) → ns ≡ ms → IsEqualStep declared ts ts e e ps q ps ms ns gs gs false
  step_passed ts e ps q ms ns gs r found same =
      let c = content_of ts e in
      let front = pairs_front ts c ps q r.pairs in
      step_kept ts ts e e ps q ms ns gs gs r (Extends-refl ts) (KeepsKnowing-refl c) (record {
        ready = record { lawful = r.lawful; pairs = front.0 };
        call = λ start first p es u. call_passed declared start ts first e p q ps ms ns es gs u found same;
      })

  -- a variable got a value
  pub step_bound : (ts us : List Tree) (e f : Entries) (ps : List Relating) (q : Relating) (ms gs new hs : List Relating) → ArePairsReady ts e (ps ++ q ∷ []) → Extends ts us → IsLawful us f → ArePairs us (content_of us f) new → AreGoals (pairs_at us new) → Takes declared (content_of ts e) (content_of us f) (pair_at ts q ∷ []) [] (pairs_at us new)
      → (q.variance ≡ variance.Invariant → (unset_count (content_of us f).slots < unset_count (content_of ts e).slots + closed_aliases (resolved (content_of ts e) (tree_at ts q.left)) + closed_aliases (resolved (content_of ts e) (tree_at ts q.right)))
      × ((t : Tree) → Knows (content_of ts e) t → closed_aliases (resolved (content_of us f) t) ≡ closed_aliases (resolved (content_of ts e) t)))
      → hs ≡ gs ++ new → IsEqualStep declared ts us e f ps q ps ms ms gs hs true
  step_bound ts us e f ps q ms gs new hs r ext lawful known are t paid goals =
      let c = content_of ts e in
      let d = content_of us f in
      let front = pairs_front ts c ps q r.pairs in
      let same = stacked_kept c ps ext front.0 in
      let whole = unsolved_last ts c ps q in
      let count : q.variance ≡ variance.Invariant → aliases_of d (stacked (pair_at us) ps) ≡ aliases_of c (stacked (pair_at ts) ps) = λ v. rw same (aliases_same c d (stacked (pair_at ts) ps) (paid v).1 (known_stack ts c ps front.0)) in
      record {
        on = record {
          ready = record { lawful = lawful; pairs = pairs_later ps ext t.later front.0 };
          call = λ start first p es u. call_taken declared start ts us first e f p q ps ms es gs [] new es hs u ext lawful tt tt known are t (sym (append-nil es)) goals;
        };
        invariant = λ h. h;
        fewer = λ v z. (let lower = (paid v).0 in let others = count v in omega (arith, lower, others, whole));
        smaller = λ (z : true ≡ false). cc;
      }

  -- the parts of two nodes are left
  pub step_parts : (ts : List Tree) (e : Entries) (ps : List Relating) (q : Relating) (ys ms ns gs : List Relating) → AreToBeOne (content_of ts e) q.variance (tree_at ts q.left) (tree_at ts q.right) → ArePairsReady ts e (ps ++ q ∷ []) → AreOfOneForm (tree_at ts q.left) (tree_at ts q.right)
      → ArePartsPaired declared ts q ps ys → ns ≡ ms ++ q ∷ [] → IsEqualStep declared ts ts e e ps q ys ms ns gs gs false
  step_parts ts e ps q ys ms ns gs to_be r one pushed new =
      let c = content_of ts e in
      let a = tree_at ts q.left in
      let b = tree_at ts q.right in
      let left = one.left in
      let right = one.right in
      let F = form_of_tree a in
      let row = variances_over declared F (parts_of a) in
      let front = pairs_front ts c ps q r.pairs in
      let pair = front.1 in
      let parts = pairs_over q.variance row (parts_of a) (parts_of b) in
      let is_left : a ≡ over F (parts_of a) = left.with_parts.is in
      let is_right : b ≡ over F (parts_of b) = right.with_parts.is ∙ ap (λ z. over z (parts_of b)) (sym one.form) in
      let fits_right : FitsForm F (parts_of b) = subst (λ z. FitsForm z (parts_of b)) (sym one.form) right.fits in
      let formed_left : IsFormed (over F (parts_of a)) = subst IsFormed is_left left.formed in
      let formed_right : IsFormed (over F (parts_of b)) = subst IsFormed is_right right.formed in
      let whole = unsolved_last ts c ps q in
      let large = sizes_last ts c ps q in
      let smaller : size (resolved c (parts_of a)) < size (resolved c a) = subst (λ z. size (resolved c (parts_of a)) < size (resolved c z)) (sym is_left) (over_larger c F (parts_of a)) in
      let fewer_left : closed_aliases (resolved c (parts_of a)) ≤ closed_aliases (resolved c a) = subst (λ z. closed_aliases (resolved c (parts_of a)) ≤ closed_aliases (resolved c z)) (sym is_left) (over_aliases c F (parts_of a) formed_left left.fits) in
      let fewer_right : closed_aliases (resolved c (parts_of b)) ≤ closed_aliases (resolved c b) = subst (λ z. closed_aliases (resolved c (parts_of b)) ≤ closed_aliases (resolved c z)) (sym is_right) (over_aliases c F (parts_of b) formed_right fits_right) in
      let sizes = ap (sizes_of c) pushed.pairs ∙ sizes_joined c parts (stacked (pair_at ts) ps) in
      let aliases = ap (aliases_of c) pushed.pairs ∙ aliases_joined c parts (stacked (pair_at ts) ps) in
      let small = sizes_row c q.variance row (parts_of a) (parts_of b) in
      let few = aliases_row c q.variance row (parts_of a) (parts_of b) in
      record {
        on = record {
          ready = record { lawful = r.lawful; pairs = pushed.known c pair.left.knows pair.right.knows front.0 };
          call = λ start first p es u. call_parts declared start ts first e p q ps ys ms ns es gs u one pushed new;
        };
        invariant = λ h. invariant_back ts ys (subst AllInvariant (sym pushed.pairs) (invariant_joined parts (stacked (pair_at ts) ps) (parts_invariant declared c q.variance a b to_be one) (invariant_stack ts ps h)));
        fewer = λ v (z : false ≡ true). cc;
        smaller = λ z. (omega (arith, sizes, small, smaller, large), omega (arith, aliases, few, fewer_left, fewer_right, whole));
      }

  -- the same for a pair and its heads
  pub step_stands : (ts us : List Tree) (e f : Entries) (ps : List Relating) (q r : Relating) (ys ms ns gs hs : List Relating) (bound : Bool) → Standing declared ts e q r → IsEqualStep declared ts us e f ps r ys ms ns gs hs bound → IsEqualStep declared ts us e f ps q ys ms ns gs hs bound
  step_stands ts us e f ps q r ys ms ns gs hs bound s x =
      let c = content_of ts e in
      let before = unsolved_last ts c ps q in
      let after = unsolved_last ts c ps r in
      let left = ap closed_aliases s.on_left.same in
      let right = ap closed_aliases s.on_right.same in
      let count : unsolved c (stacked (pair_at ts) (ps ++ r ∷ [])) ≡ unsolved c (stacked (pair_at ts) (ps ++ q ∷ [])) = omega (arith, before, after, left, right) in
      let large = sizes_last ts c ps q in
      let larger = sizes_last ts c ps r in
      let own = ap size s.on_left.same in
      let sizes : sizes_of c (stacked (pair_at ts) (ps ++ r ∷ [])) ≡ sizes_of c (stacked (pair_at ts) (ps ++ q ∷ [])) = omega (arith, large, larger, own) in
      record {
        on = record {
          ready = x.on.ready;
          call = λ start first p es u. x.on.call start first p es (call_stands declared start ts first e p q r ps ms es gs s u);
        };
        invariant = x.invariant;
        fewer = λ v z. subst (λ n. unsolved (content_of us f) (stacked (pair_at us) ys) < n) count (x.fewer (s.kept ∙ v) z);
        smaller = λ z. (let w = x.smaller z in (subst (λ n. sizes_of (content_of us f) (stacked (pair_at us) ys) < n) sizes w.0, subst (λ n. unsolved (content_of us f) (stacked (pair_at us) ys) ≤ n) count w.1));
      }
