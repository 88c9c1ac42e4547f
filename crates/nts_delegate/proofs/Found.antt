-- What clauses offer that an index leads to: the others are irrelevant.
use Rattle.std.proofs.Common.{◌≡◌, ◌≢◌, ◌↔◌, inl, ℕ, suc, ◌+◌, ◌<◌, ◌||◌, Bool, true, false, cond, List, [], ◌∷◌, ◌++◌, length, length-append, get_or, drop, map, Option, Some, None, append_assoc, append-nil, refl, ap, sym, ◌∙◌, subst, arith, rules}
use Rattle.std.specs.Prelude.{IsTrue}
use Rattle.std.proofs.lemmas.List.{map_push, drop_more}
use Rattle.std.proofs.Math.Seq.{get_or-append_seam}
use Rattle.nts_model.specs.declared.labels.TyHead.{TyHead}
use Rattle.nts_model.specs.Terms.Trees.{Tree, empty, more, node, children}
use Rattle.nts_model.specs.Lists.{Among}
use Rattle.nts_model.specs.Derivations.Rules.{related}
use Rattle.nts_model.specs.Derivations.Handlers.{Candidate}
use Rattle.nts_store.specs.Growth.{tree_at}
use Rattle.nts_terms.specs.declared.handles.Goal.{Goal}
use Rattle.nts_candidates.specs.declared.data.CandidateData.{CandidateData}
use Rattle.nts_delegate.specs.declared.clauses.Clause.{Clause}
use Rattle.nts_delegate.specs.Candidates.{IsAskedIn, AreCandidates}
use Rattle.nts_delegate.specs.Clauses.{HoldsClause, AreClauses, head_of_clause}
use Rattle.nts_delegate.specs.ClauseHandlers.{equations_of, offer_by, takes_all, offers_of_clauses, clause_tree}
use Rattle.nts_delegate.specs.ClausesLawful.{offer_read}
use Rattle.nts_candidates.specs.Offered.{candidate_of, candidates_of}
use Rattle.nts_delegate.specs.Offers.{IsOffer}
use Rattle.nts_delegate.specs.Places.{same_head, may_be_built_by, places_from}
use Rattle.nts_delegate.specs.Relevant.{first_built_by, IsIrrelevant, LeavesOut}
use Rattle.nts_delegate.specs.Relevant.LeavesOut.{none, offered, left_out}
use Rattle.nts_delegate.proofs.Offering.{IsPart, AreClosedArguments, candidates_push, filter_kept, filter_left, offer_is_candidate, clause_at}

are_same : (a b : TyHead) → IsTrue (same_head a b) ↔ (a ≡ b)
are_same a b = search rules

-- the first arguments are built differently
irrelevant : (us vs : Tree) (k h : TyHead) (x : Candidate) → first_built_by us ≡ Some k → first_built_by vs ≡ Some h → h ≢ k → x.equations ≡ equations_of us vs → IsIrrelevant x
irrelevant (more a us) (more b vs) k h x e f n q =
    record {
      left = a;
      right = b;
      equation = subst (λ z. Among z (related a b)) (sym q) (inl refl);
      apart = record { left = k; right = h; of_left = e; of_right = f; apart = λ s. n (sym s) };
    }
irrelevant (more a us) empty k h x e f n q = cc f
irrelevant (more a us) (node l c) k h x e f n q = cc f
irrelevant empty vs k h x e f n q = cc e
irrelevant (node l c) vs k h x e f n q = cc e

-- a head that is neither this one nor open
record IsOtherHead (k : TyHead) (o : Option TyHead) : Type 0 where
  head : TyHead
  is : o ≡ Some head
  other : head ≢ k

other_head : (k : TyHead) (o : Option TyHead) → may_be_built_by k o ≡ false → IsOtherHead k o
other_head k None e = cc e
other_head k (Some h) e = by_case (same_head h k) refl e
  where
    by_case : (b : Bool) → same_head h k ≡ b → (b || false) ≡ false → IsOtherHead k (Some h)
    by_case true s q = cc q
    by_case false s q = record { head = h; is = refl; other = λ m. let t : IsTrue (same_head h k) = (are_same h k).1 m in cc (t, s) }

module _ (ts : List Tree) (g : Goal) (args : Tree) where
  abbrev env : Tree
  env = tree_at ts g.param_env.node

  abbrev offers : List Clause → List Candidate
  offers cs = offers_of_clauses env (children args) (map (clause_tree ts) cs)

  -- what the first clauses of a trait offer, but for what is irrelevant
  pub record IsFound (cs : List Clause) (ds : List CandidateData) : Type 0 where
    pub leaves_out : LeavesOut (offers cs) (candidates_of ts ds)
    pub candidates : AreCandidates ts g ds

  offers_more : (cs : List Clause) (c : Clause) → takes_all (children args) (clause_tree ts c) ≡ true → offers (cs ++ c ∷ []) ≡ offers cs ++ offer_by env (children args) (clause_tree ts c) ∷ []
  offers_more cs c t =
      ap (offers_of_clauses env (children args)) (map_push (clause_tree ts) cs c)
      ∙ ap (map (offer_by env (children args))) (filter_kept (takes_all (children args)) (map (clause_tree ts) cs) (clause_tree ts c) t)
      ∙ map_push (offer_by env (children args)) _ (clause_tree ts c)

  offers_same : (cs : List Clause) (c : Clause) → takes_all (children args) (clause_tree ts c) ≡ false → offers (cs ++ c ∷ []) ≡ offers cs
  offers_same cs c t =
      ap (offers_of_clauses env (children args)) (map_push (clause_tree ts) cs c)
      ∙ ap (map (offer_by env (children args))) (filter_left (takes_all (children args)) (map (clause_tree ts) cs) (clause_tree ts c) t)

  -- one clause more: it offers, or takes another number of arguments, or is irrelevant
  pub found_offer : (cs : List Clause) (c : Clause) (ds es : List CandidateData) (d : CandidateData) → IsFound cs ds → takes_all (children args) (clause_tree ts c) ≡ true → IsAskedIn ts g → HoldsClause ts c → IsPart (tree_at ts g.predicate.node) args → AreClosedArguments args
      → IsOffer ts g args c d → es ≡ ds ++ d ∷ [] → IsFound (cs ++ c ∷ []) es
  found_offer cs c ds es d f t a h p closed o e =
      let last = offered (candidate_of ts d) f.leaves_out in
      let is : offers cs ++ candidate_of ts d ∷ [] ≡ offers (cs ++ c ∷ []) = ap (λ x. offers cs ++ x ∷ []) (offer_read ts g args c d o) ∙ sym (offers_more cs c t) in
      let trees : candidates_of ts ds ++ candidate_of ts d ∷ [] ≡ candidates_of ts es = sym (map_push (candidate_of ts) ds d) ∙ ap (candidates_of ts) (sym e) in
      record {
        leaves_out = subst (λ x. LeavesOut x (candidates_of ts es)) is (subst (LeavesOut (offers cs ++ candidate_of ts d ∷ [])) trees last);
        candidates = subst (AreCandidates ts g) (sym e) (candidates_push ts g ds d f.candidates (offer_is_candidate ts g args c d a h p closed o));
      }

  pub found_untaken : (cs : List Clause) (c : Clause) (ds : List CandidateData) → IsFound cs ds → takes_all (children args) (clause_tree ts c) ≡ false → IsFound (cs ++ c ∷ []) ds
  found_untaken cs c ds f t =
      record { leaves_out = subst (λ x. LeavesOut x (candidates_of ts ds)) (sym (offers_same cs c t)) f.leaves_out; candidates = f.candidates }

  found_irrelevant : (cs : List Clause) (c : Clause) (ds : List CandidateData) (k : TyHead) → first_built_by (children args) ≡ Some k → may_be_built_by k (head_of_clause ts c) ≡ false → IsFound cs ds → IsFound (cs ++ c ∷ []) ds
  found_irrelevant cs c ds k first n f = by_case (takes_all (children args) (clause_tree ts c)) refl
    where
      by_case : (b : Bool) → takes_all (children args) (clause_tree ts c) ≡ b → IsFound (cs ++ c ∷ []) ds
      by_case false t = found_untaken cs c ds f t
      by_case true t =
          let o = other_head k (head_of_clause ts c) n in
          let x = offer_by env (children args) (clause_tree ts c) in
          let out = irrelevant (children args) (children (tree_at ts c.head.node)) k o.head x first o.is o.other refl in
          record { leaves_out = subst (λ y. LeavesOut y (candidates_of ts ds)) (sym (offers_more cs c t)) (left_out x f.leaves_out out); candidates = f.candidates }

  -- how far the places are gone through: what was found of the clauses before, and the places of those that are left
  pub record IsAt (k : TyHead) (cs : List Clause) (ds : List CandidateData) (ps : List ℕ) : Type 0 where
    pub done : List Clause
    pub left : List Clause
    pub split : cs ≡ done ++ left
    pub places : ps ≡ places_from (may_be_built_by k) (length done) (map (head_of_clause ts) left)
    pub found : IsFound done ds

  -- the clause at the next place
  pub record IsNext (k : TyHead) (cs : List Clause) (ds : List CandidateData) (m : ℕ) (rest : List ℕ) : Type 0 where
    pub done : List Clause
    pub clause : Clause
    pub left : List Clause
    pub split : cs ≡ done ++ clause ∷ left
    pub number : length done ≡ m
    pub places : rest ≡ places_from (may_be_built_by k) (suc m) (map (head_of_clause ts) left)
    pub found : IsFound done ds

  next_from : (k : TyHead) → first_built_by (children args) ≡ Some k → (left done cs : List Clause) (ds : List CandidateData) (m : ℕ) (rest : List ℕ) → cs ≡ done ++ left
      → m ∷ rest ≡ places_from (may_be_built_by k) (length done) (map (head_of_clause ts) left) → IsFound done ds → IsNext k cs ds m rest
  next_from k first [] done cs ds m rest s e f = cc e
  next_from k first (c ∷ left) done cs ds m rest s e f = by_case (may_be_built_by k (head_of_clause ts c)) refl e (λ q p g. next_from k first left (done ++ c ∷ []) cs ds m rest q p g)
    where
      by_case : (b : Bool) → may_be_built_by k (head_of_clause ts c) ≡ b → m ∷ rest ≡ cond b (length done ∷ places_from (may_be_built_by k) (suc (length done)) (map (head_of_clause ts) left)) (places_from (may_be_built_by k) (suc (length done)) (map (head_of_clause ts) left))
          → (cs ≡ (done ++ c ∷ []) ++ left → m ∷ rest ≡ places_from (may_be_built_by k) (length (done ++ c ∷ [])) (map (head_of_clause ts) left) → IsFound (done ++ c ∷ []) ds → IsNext k cs ds m rest) → IsNext k cs ds m rest
      by_case true t q next =
          let here : m ≡ length done = cc q in
          let later : rest ≡ places_from (may_be_built_by k) (suc (length done)) (map (head_of_clause ts) left) = cc q in
          record { done = done; clause = c; left = left; split = s; number = sym here; places = later ∙ ap (λ n. places_from (may_be_built_by k) (suc n) (map (head_of_clause ts) left)) (sym here); found = f }
      by_case false t q next =
          let long : suc (length done) ≡ length (done ++ c ∷ []) = let l = length-append done (c ∷ []) in omega (arith, l) in
          next (s ∙ sym (append_assoc done (c ∷ []) left)) (q ∙ ap (λ n. places_from (may_be_built_by k) n (map (head_of_clause ts) left)) long) (found_irrelevant done c ds k first t f)

  pub next_clause : (k : TyHead) → first_built_by (children args) ≡ Some k → (cs : List Clause) (ds : List CandidateData) (m : ℕ) (rest places : List ℕ) → IsAt k cs ds places → places ≡ m ∷ rest → IsNext k cs ds m rest
  next_clause k first cs ds m rest places a e = next_from k first a.left a.done cs ds m rest a.split (sym e ∙ a.places) a.found

  pub clause_there : {k : TyHead} {cs : List Clause} {ds : List CandidateData} {m : ℕ} {rest : List ℕ} (x : IsNext k cs ds m rest) → (m < length cs) × ((d : Clause) → get_or cs m d ≡ x.clause)
  clause_there {k} {cs} {ds} {m} {rest} x =
      let l = ap length x.split ∙ length-append x.done (x.clause ∷ x.left) in
      let n = x.number in
      (omega (arith, l, n), λ d. ap (λ z. get_or z m d) x.split ∙ ap (λ j. get_or (x.done ++ x.clause ∷ x.left) j d) (sym x.number) ∙ get_or-append_seam x.done x.clause x.left d)

  pub goes_on : {k : TyHead} {cs : List Clause} {ds : List CandidateData} {m : ℕ} {rest : List ℕ} (x : IsNext k cs ds m rest) (es : List CandidateData) → IsFound (x.done ++ x.clause ∷ []) es → IsAt k cs es rest
  goes_on {k} {cs} {ds} {m} {rest} x es f =
      let l = length-append x.done (x.clause ∷ []) in
      let n = x.number in
      let long : suc m ≡ length (x.done ++ x.clause ∷ []) = omega (arith, l, n) in
      record {
        done = x.done ++ x.clause ∷ [];
        left = x.left;
        split = x.split ∙ sym (append_assoc x.done (x.clause ∷ []) x.left);
        places = x.places ∙ ap (λ j. places_from (may_be_built_by k) j (map (head_of_clause ts) x.left)) long;
        found = f;
      }

  -- no place is left
  none_from : (k : TyHead) → first_built_by (children args) ≡ Some k → (left done : List Clause) (ds : List CandidateData) → [] ≡ places_from (may_be_built_by k) (length done) (map (head_of_clause ts) left) → IsFound done ds → IsFound (done ++ left) ds
  none_from k first [] done ds e f = subst (λ cs. IsFound cs ds) (sym (append-nil done)) f
  none_from k first (c ∷ left) done ds e f = by_case (may_be_built_by k (head_of_clause ts c)) refl e (λ p g. none_from k first left (done ++ c ∷ []) ds p g)
    where
      by_case : (b : Bool) → may_be_built_by k (head_of_clause ts c) ≡ b → [] ≡ cond b (length done ∷ places_from (may_be_built_by k) (suc (length done)) (map (head_of_clause ts) left)) (places_from (may_be_built_by k) (suc (length done)) (map (head_of_clause ts) left))
          → ([] ≡ places_from (may_be_built_by k) (length (done ++ c ∷ [])) (map (head_of_clause ts) left) → IsFound (done ++ c ∷ []) ds → IsFound ((done ++ c ∷ []) ++ left) ds) → IsFound (done ++ c ∷ left) ds
      by_case true t q next = cc q
      by_case false t q next =
          let long : suc (length done) ≡ length (done ++ c ∷ []) = let l = length-append done (c ∷ []) in omega (arith, l) in
          subst (λ cs. IsFound cs ds) (append_assoc done (c ∷ []) left) (next (q ∙ ap (λ n. places_from (may_be_built_by k) n (map (head_of_clause ts) left)) long) (found_irrelevant done c ds k first t f))

  pub all_found : (k : TyHead) → first_built_by (children args) ≡ Some k → (cs : List Clause) (ds : List CandidateData) (places : List ℕ) → IsAt k cs ds places → places ≡ [] → IsFound cs ds
  all_found k first cs ds places a e = subst (λ xs. IsFound xs ds) (sym a.split) (none_from k first a.left a.done ds (sym e ∙ a.places) a.found)

  pub next_at : (k : TyHead) → first_built_by (children args) ≡ Some k → (cs : List Clause) (ds : List CandidateData) (items : List ℕ) (i : ℕ) → i < length items → IsAt k cs ds (drop i items) → IsNext k cs ds (get_or items i 0) (drop (i + 1) items)
  next_at k first cs ds items i h a = next_clause k first cs ds (get_or items i 0) (drop (i + 1) items) (drop i items) a (drop_more items i 0 h)

  -- the clause there is of the store
  pub held_there : {k : TyHead} {cs : List Clause} {ds : List CandidateData} {m : ℕ} {rest : List ℕ} (x : IsNext k cs ds m rest) (c : Clause) → AreClauses ts cs → c ≡ get_or cs m c → HoldsClause ts c
  held_there {cs = cs} {m = m} x c all e = clause_at ts cs m c all (clause_there x).0 e

  pub goes_on_by : {k : TyHead} {cs : List Clause} {ds : List CandidateData} {m : ℕ} {rest : List ℕ} (x : IsNext k cs ds m rest) (c : Clause) (es : List CandidateData) → c ≡ get_or cs m c → IsFound (x.done ++ c ∷ []) es → IsAt k cs es rest
  goes_on_by x c es e f = goes_on x es (subst (λ z. IsFound (x.done ++ z ∷ []) es) (e ∙ (clause_there x).1 c) f)

  pub begins_at : (k : TyHead) (cs : List Clause) (ds : List CandidateData) (ps : List ℕ) → ps ≡ places_from (may_be_built_by k) 0 (map (head_of_clause ts) cs) → ds ≡ [] → IsAt k cs ds ps
  begins_at k cs ds ps e f =
      record { done = []; left = cs; split = refl; places = e; found = subst (IsFound []) (sym f) (record { leaves_out = none; candidates = tt }) }
