-- The steps of a search in which inputs are asked in the erased mode, each by one lemma.
use Rattle.std.proofs.Common.{◌≡◌, ◌⊎◌, inl, inr, ⊎_elim, ℕ, zero, suc, List, [], ◌∷◌, Some, map, refl, sym, ap, ◌∙◌, subst, Bool, true, false, IsTrue}
use Rattle.std.specs.Prelude.{slice_get, ◌&&◌}
use Rattle.nts_model.specs.declared.labels.Variance.{Variance}
use Rattle.nts_model.specs.Terms.Trees.{Tree}
use Rattle.nts_model.specs.Tables.Contents.{Content}
use Rattle.nts_model.specs.Tables.Resolving.{IsSound}
use Rattle.nts_model.specs.Lists.{Among}
use Rattle.nts_model.specs.Derivations.Sequents.{PathKind, coinductive, Sequent}
use Rattle.nts_model.specs.Derivations.Rules.{Meaning, Mode, erased}
use Rattle.nts_model.specs.Derivations.Proofs.{Assumed, passed}
use Rattle.nts_model.specs.Derivations.Handlers.{Access, Handler, meaning, Candidate, certain, Certainty, IsAsked, IsInstanceFor, InstancesAreRules, IsCandidateFor}
use Rattle.nts_model.specs.Canonical.Inputs.{CanonicalInput}
use Rattle.nts_model.specs.Derivations.Proving.{HoldsTerms, IsTermOf, AreConstraintsOf}
use Rattle.nts_model.specs.Answers.Responses.{Response}
use Rattle.nts_model.specs.Searching.Stacks.{IsReadSince, AreReadSince, IsEntry, IsDerivedFrom, IsProvedFrom, HoldsCandidateFrom, assumptions, path_kind, stronger}
use Rattle.nts_model.specs.Searching.Driving.{EvaluatesInput, MayEnd, as_read, marked}
use Rattle.nts_theory.proofs.Searching.Driving.{back_evaluates, round_evaluates}
use Rattle.nts_theory.proofs.Derivations.FromCandidate.{from_candidate}
use Rattle.nts_theory.proofs.Searching.Stacks.{derived_since}
use Rattle.nts_theory.specs.Erased.Accessing.{suits, stands_for, IsBelow, Parents, decides, stands, is_handed_on}
use Rattle.nts_theory.specs.Erased.Erasing.{ModedEntry, entry_in_mode, all_seen, plain_entry, WasReadSince, WereReadSince, mark, all_marked, EvaluatesIn, ComputesIn, ErasedAreRules, without_access, standing_candidates, standing}
use Rattle.nts_theory.proofs.Erased.Accessing.{suits_less, suits_taken, suits_handed_on}
use Rattle.nts_model.proofs.Terms.Listed.{either}

-- what was read since, was so for each mode
and_more : (a b c : Bool) → (a ≡ true → b ≡ true) → (a && c) ≡ true → (b && c) ≡ true
and_more true b c f e = (let h : b ≡ true = f refl in rw h e)
and_more false b c f e = cc e

seen_since : (proof : Mode) (x y : ModedEntry) → WasReadSince x y → IsReadSince (entry_in_mode proof x) (entry_in_mode proof y)
seen_since proof x y h =
    let s = h.entry in
    let a = h.mode in
    let b = h.accesses in
    record {
      input = s.input;
      kind = s.kind;
      response = s.response;
      certainty = s.certainty;
      read = λ e. rw (a, b) (and_more _ _ (suits proof x.mode x.accesses) s.read e);
    }

pub all_seen_since : (proof : Mode) (xs ys : List ModedEntry) → WereReadSince xs ys → AreReadSince (all_seen proof xs) (all_seen proof ys)
all_seen_since proof [] [] h = tt
all_seen_since proof [] (y ∷ ys) h = absurd h
all_seen_since proof (x ∷ xs) [] h = absurd h
all_seen_since proof (x ∷ xs) (y ∷ ys) h = (seen_since proof x y h.0, all_seen_since proof xs ys h.1)

-- paths do not mind modes
pub path_seen : (proof : Mode) (xs : List ModedEntry) (n : ℕ) (k : PathKind) → path_kind (all_seen proof xs) n k ≡ path_kind (map plain_entry xs) n k
path_seen proof [] n k = refl
path_seen proof (x ∷ xs) zero k = refl
path_seen proof (x ∷ xs) (suc n) k = let e = x.entry in ap (stronger k) (path_seen proof xs n e.kind)

no_entry : (n : ℕ) (x : ModedEntry) → slice_get [] n ≡ Some x → ⊥
no_entry n x e = cc e

first_entry : (a b : ModedEntry) (xs : List ModedEntry) → slice_get (a ∷ xs) 0 ≡ Some b → a ≡ b
first_entry a b xs e = let z : Some a ≡ Some b = e in cc z

get_seen : (proof : Mode) (xs : List ModedEntry) (n : ℕ) (x : ModedEntry) → slice_get xs n ≡ Some x → slice_get (all_seen proof xs) n ≡ Some (entry_in_mode proof x)
get_seen proof [] n x e = absurd (no_entry n x e)
get_seen proof (y ∷ xs) zero x e = ap (λ v. Some (entry_in_mode proof v)) (first_entry y x xs e)
get_seen proof (y ∷ xs) (suc n) x e = get_seen proof xs n x e

-- a mode that may take an entry's answer sees that it is read
mark_seen : (proof : Mode) (x : ModedEntry) → IsTrue (suits proof x.mode x.accesses) → entry_in_mode proof (mark x) ≡ as_read (entry_in_mode proof x)
mark_seen proof x e = (let q : suits proof x.mode x.accesses ≡ true = e in rw q refl)

all_marked_seen : (proof : Mode) (xs : List ModedEntry) (n : ℕ) (x : ModedEntry) → slice_get xs n ≡ Some x → IsTrue (suits proof x.mode x.accesses) → all_seen proof (all_marked xs n) ≡ marked (all_seen proof xs) n
all_marked_seen proof [] n x found e = absurd (no_entry n x found)
all_marked_seen proof (y ∷ xs) zero x found e =
    ap (λ v. v ∷ all_seen proof xs) (mark_seen proof y (subst (λ v. IsTrue (suits proof v.mode v.accesses)) (sym (first_entry y x xs found)) e))
all_marked_seen proof (y ∷ xs) (suc n) x found e = ap (λ v. entry_in_mode proof y ∷ v) (all_marked_seen proof xs n x found e)

-- a coinductive back edge: the entry is read, and its provisional answer is the answer, with its accesses, which the context's
-- are joined with
seen_entry : (proof : Mode) (x : ModedEntry) → IsEntry x.entry → IsEntry (entry_in_mode proof x)
seen_entry proof x h = record { environment = h.environment; predicate = h.predicate; fits = h.fits; bounded = h.bounded }

pub back_in : (m : Meaning) (st : List ModedEntry) (n : ℕ) (k : PathKind) (x : ModedEntry) → slice_get st n ≡ Some x → IsEntry x.entry → path_kind (map plain_entry st) n k ≡ coinductive
    → (let e = x.entry in EvaluatesIn m k st (all_marked st n) e.input x.mode e.response e.certainty x.accesses)
back_in m st n k x found entry path = λ proof may.
    subst (λ z. EvaluatesInput m proof k (all_seen proof st) z (let e = x.entry in e.input) (let e = x.entry in e.response) (let e = x.entry in e.certainty)) (sym (all_marked_seen proof st n x found may))
    (back_evaluates m proof (all_seen proof st) n k (entry_in_mode proof x) (get_seen proof st n x found) (seen_entry proof x entry) (path_seen proof st n k ∙ path))

read_first : (b d : Bool) → (b && d) ≡ true → b ≡ true
read_first true d q = refl
read_first false d q = cc q

-- the last round of a head: its provisional answer was not read, or says the same. The accesses are not compared
pub round_in : (m : Meaning) (x y : ModedEntry) (old new : List ModedEntry) (r : Response) (c : Certainty) (a : Access)
    → (let e = x.entry in ComputesIn m (x ∷ old) (y ∷ new) e.input x.mode r c a) → (c ≡ certain → MayEnd y.entry r)
    → (let e = x.entry in EvaluatesIn m e.kind old new e.input x.mode r c a)
round_in m x y old new r c a computes end = λ proof may.
    round_evaluates m proof (entry_in_mode proof x) (entry_in_mode proof y) (all_seen proof old) (all_seen proof new) r c (computes proof may)
    (λ sure read same. end sure (let e = y.entry in read_first e.is_read (suits proof y.mode y.accesses) read) same)

-- a context of that mode which has these accesses asked a goal: in the erased mode, where the answer stands or its accesses were
-- joined; or in its own mode
pub asked_stands : (m : Meaning) (k : PathKind) (old new : List ModedEntry) (i : CanonicalInput) (mode : Mode) (p : Parents) (r : Response) (c : Certainty) (a b : Access)
    → EvaluatesIn m k old new i erased r c b → decides mode p b ≡ stands → EvaluatesIn m k old new i mode r c a
asked_stands m k old new i mode p r c a b x d = λ proof may. x proof (suits_taken proof mode p a b d may)

pub asked_handed_on : (m : Meaning) (k : PathKind) (old new : List ModedEntry) (i : CanonicalInput) (mode : Mode) (p : Parents) (r : Response) (c : Certainty) (a b : Access)
    → EvaluatesIn m k old new i erased r c b → decides mode p b ≡ is_handed_on → IsBelow b a → EvaluatesIn m k old new i mode r c a
asked_handed_on m k old new i mode p r c a b x d f = λ proof may. x proof (suits_handed_on proof mode p a b d f may)

pub asked_in_mode : (m : Meaning) (k : PathKind) (old new : List ModedEntry) (i : CanonicalInput) (mode : Mode) (r : Response) (c : Certainty) (a b : Access)
    → EvaluatesIn m k old new i mode r c b → IsBelow b a → EvaluatesIn m k old new i mode r c a
asked_in_mode m k old new i mode r c a b x f = λ proof may. x proof (suits_less proof mode b a f may)

-- what was derived before entries were read is derived since, for each mode
pub derived_since_in : (m : Meaning) (proof : Mode) (k : PathKind) (xs ys : List ModedEntry) (t : Sequent) → WereReadSince xs ys
    → IsDerivedFrom m proof (passed k (assumptions (all_seen proof xs))) t → IsDerivedFrom m proof (passed k (assumptions (all_seen proof ys))) t
derived_since_in m proof k xs ys t h x = derived_since m proof k (all_seen proof xs) (all_seen proof ys) t (all_seen_since proof xs ys h) x

record IsStanding (proof : Mode) (cs : List Candidate) (d : Candidate) : Type 0 where
  pub candidate : Candidate
  pub found : Among cs candidate
  pub stands : IsTrue (stands_for proof candidate.accesses)
  pub same : d ≡ without_access candidate

standing_later : (proof : Mode) (c : Candidate) (cs : List Candidate) (d : Candidate) → IsStanding proof cs d → IsStanding proof (c ∷ cs) d
standing_later proof c cs d x = record { candidate = x.candidate; found = inr x.found; stands = x.stands; same = x.same }

standing-from : (proof : Mode) (cs : List Candidate) (d : Candidate) → Among (standing_candidates proof cs) d → IsStanding proof cs d
standing-from proof [] d h = absurd h
standing-from proof (c ∷ cs) d h = elim (either (stands_for proof c.accesses)) [
  | inl e ↦ ⊎_elim
      (λ q. record { candidate = c; found = inl refl; stands = e; same = q })
      (λ q. standing_later proof c cs d (standing-from proof cs d q))
      (first_of (rw e at h))
  | inr e ↦ standing_later proof c cs d (standing-from proof cs d (rw e at h))
]
  where
    first_of : (d ≡ without_access c) ⊎ Among (standing_candidates proof cs) d → (d ≡ without_access c) ⊎ Among (standing_candidates proof cs) d
    first_of x = x

standing-has : (proof : Mode) (cs : List Candidate) (d : Candidate) → Among cs d → IsTrue (stands_for proof d.accesses) → Among (standing_candidates proof cs) (without_access d)
standing-has proof [] d h e = absurd h
standing-has proof (c ∷ cs) d (inl q) e =
    (let y : stands_for proof c.accesses ≡ true = subst (λ v. IsTrue (stands_for proof v.accesses)) q e in rw y (inl (ap without_access q)))
standing-has proof (c ∷ cs) d (inr h) e = elim (either (stands_for proof c.accesses)) [
  | inl y ↦ rw y (inr (standing-has proof cs d h e))
  | inr y ↦ rw y (standing-has proof cs d h e)
]

pub standing_rules : (h : Handler) → ErasedAreRules h → InstancesAreRules h → InstancesAreRules (standing h)
standing_rules h law rules =
    record {
      instances = λ mode e g c ι a asked offered sure is.
          (let x = standing-from mode (h.offers erased e g) c offered in
          law.instances mode e g x.candidate ι a asked x.found (ap (λ v. v.certainty) (sym x.same) ∙ sure) x.stands
          (let y : IsInstanceFor (without_access x.candidate) e g ι a = subst (λ v. IsInstanceFor v e g ι a) x.same is in record { values = y.values; same = y.same }));
      closed = rules.closed;
    }

-- a candidate that holds in a context of that mode which has these accesses: the goal is proved for each mode for which the
-- context works
module _ (h : Handler) (V : ℕ → List Variance) (law : ErasedAreRules h) (rules : InstancesAreRules h) (A : List Assumed) (c : Content) (s : IsSound c) (t : HoldsTerms c) (k : AreConstraintsOf c)
    (e g : Tree) (asked : IsAsked e g) (ke : IsTermOf c e) (kg : IsTermOf c g) (d : Candidate) (keeps : IsCandidateFor e g (without_access d)) (sure : d.certainty ≡ certain) where
  pub erased_candidate : (proof : Mode) → Among (h.offers erased e g) d → IsTrue (stands_for proof d.accesses) → HoldsCandidateFrom (meaning h V) proof A c g d → IsProvedFrom (meaning h V) proof A c e g
  erased_candidate proof offered may x =
      from_candidate (standing h) V proof A c s t k e g asked ke kg (without_access d)
      (record { chosen = x.chosen; values = x.values; known = x.known; equations = x.equations; constraints = x.constraints; goals = x.goals })
      (standing_rules h law rules) keeps (standing-has proof (h.offers erased e g) d offered may) sure
