-- What the stack of a search assumes: how it grows, what a back edge gives, and how a head is closed.
use Rattle.std.specs.Prelude.{◌≡◌, ◌⊎◌, ℕ, zero, suc, ◌&&◌, List, [], ◌∷◌, Some, slice_get, map, Contains, IsTrue, Bool, true, false, refl}
use Rattle.std.proofs.Common.{inl, inr, ap, sym, ◌∙◌, subst, ⊎_elim}
use Rattle.nts_model.specs.declared.labels.Leaf.{Leaf}
use Rattle.nts_model.specs.Terms.Trees.{Tree}
use Rattle.nts_model.specs.Tables.Contents.{Recorded}
use Rattle.nts_model.specs.Terms.Substitutions.{instance_of, leaf_tree, filled}
use Rattle.nts_model.specs.Derivations.Related.{Constraint}
use Rattle.nts_model.specs.Lists.{Among}
use Rattle.nts_model.specs.Derivations.Sequents.{PathKind, coinductive, unknown, inductive, forced_ambiguity, Premise, Sequent, constraint_under, premise_under, IsInstance}
use Rattle.nts_model.specs.Derivations.Rules.{Meaning, Mode}
use Rattle.nts_model.specs.Derivations.Proofs.{Assumed, put_behind, passed}
use Rattle.nts_model.specs.Derivations.Handlers.{Certainty, certain, perhaps, premise_by}
use Rattle.nts_model.specs.Canonical.Inputs.{CanonicalInput}
use Rattle.nts_model.specs.Answers.Responses.{Response, recorded_by, said, leaves_of_kinds, closed_by, said_constraints, answer_sequent, IsOverPositions, IsResponseTo}
use Rattle.nts_model.specs.Derivations.Proving.{turned}
use Rattle.nts_model.specs.Searching.Stacks.{IsUsable, IsDerivedFrom, Entry, is_certain, with_own, assumptions, IsReadSince, AreReadSince, stronger, path_kind, IsEntry, SaysSame}
use Rattle.nts_model.proofs.Terms.Composing.{itself, instance_of-itself}
use Rattle.nts_model.proofs.Terms.Identified.{one_itself}
use Rattle.nts_model.proofs.Terms.Listed.{either}
use Rattle.nts_model.proofs.Canonical.Positioned.{instance_of-filled}
use Rattle.nts_theory.proofs.Responses.Closing.{said_split}
use Rattle.nts_theory.proofs.Derivations.ProvedLater.{contains_first, contains_later}
use Rattle.nts_theory.proofs.Derivations.Assuming.{Covers, covers_none, covers_later, covers_more, covers_passed, get-passed, derived_more, close_head}
use Rattle.nts_theory.proofs.Searching.Ordered.{no_entry}

-- what an answer says is an instance of itself
leaves_themselves : (ls : List Leaf) → map (instance_of itself) (map leaf_tree ls) ≡ map leaf_tree ls
leaves_themselves [] = refl
leaves_themselves (l ∷ ls) = let a = instance_of-itself (leaf_tree l) (tt, tt) in cc (a, leaves_themselves ls)

module _ (r : Response) where
  closed_itself : (t : Tree) → IsOverPositions t → instance_of itself (closed_by r t) ≡ closed_by r t
  closed_itself t o = instance_of-filled itself (map leaf_tree (leaves_of_kinds 0 r.kinds)) t o ∙ ap (λ z. filled z t) (leaves_themselves (leaves_of_kinds 0 r.kinds))

  all_itself : (ts : List Tree) → ((t : Tree) → Among ts t → IsOverPositions t) → map (instance_of itself) (map (closed_by r) ts) ≡ map (closed_by r) ts
  all_itself [] o = refl
  all_itself (t ∷ ts) o = cc (closed_itself t (o t (inl refl)), all_itself ts (λ z i. o z (inr i)))

  term_itself : (ts : List Tree) → ((t : Tree) → Among ts t → IsOverPositions t) → (t : Tree) → IsOverPositions t → instance_of itself (filled (map (closed_by r) ts) t) ≡ filled (map (closed_by r) ts) t
  term_itself ts o t h = instance_of-filled itself (map (closed_by r) ts) t h ∙ ap (λ z. filled z t) (all_itself ts o)

  -- its constraints
  constraints_itself : (xs : List Recorded) → ((x : Recorded) → Contains xs x → IsOverPositions x.left) → ((x : Recorded) → Contains xs x → IsOverPositions x.right)
      → (y : Constraint) → Among (said_constraints (map (recorded_by (closed_by r)) xs)) y → constraint_under itself y ≡ y
  constraints_itself [] left right y i = absurd i
  constraints_itself (x ∷ xs) left right y i =
      let a = closed_itself x.left (left x (contains_first x xs)) in
      let b = closed_itself x.right (right x (contains_first x xs)) in
      let one : constraint_under itself (said (recorded_by (closed_by r) x)) ≡ said (recorded_by (closed_by r) x) = rw (a, b) refl in
      ⊎_elim
      (λ z. ⊎_elim
      (λ e. subst (λ v. constraint_under itself v ≡ v) (sym e) one)
      (λ e. subst (λ v. constraint_under itself v ≡ v) (sym e.1) (ap turned one)) z)
      (λ j. constraints_itself xs (λ v h. left v (contains_later x xs v h)) (λ v h. right v (contains_later x xs v h)) y j)
      (said_split x.relation (said (recorded_by (closed_by r) x)) y (said_constraints (map (recorded_by (closed_by r)) xs)) i)

  goals_themselves : (gs : List Premise) → ((g : Premise) → Among gs g → IsOverPositions g.environment × IsOverPositions g.predicate)
      → (g : Premise) → Among (map (premise_by (closed_by r)) gs) g → Among (map (premise_by (closed_by r)) gs) (premise_under itself g)
  goals_themselves [] o g k = absurd k
  goals_themselves (x ∷ gs) o g k = ⊎_elim
      (λ e. let h = o x (inl refl) in
      let a = closed_itself x.environment h.0 in
      let b = closed_itself x.predicate h.1 in
      let one : premise_under itself (premise_by (closed_by r) x) ≡ premise_by (closed_by r) x = λ j. record { source = x.source; environment = a j; predicate = b j } in
      inl (ap (premise_under itself) e ∙ one))
      (λ j. inr (goals_themselves gs (λ y i. o y (inr i)) g j))
      k

  pub answer_itself : (i : CanonicalInput) → IsOverPositions i.environment → IsOverPositions i.predicate → IsResponseTo i.kinds r → IsInstance itself (answer_sequent i r) (answer_sequent i r)
  answer_itself i e p fit =
      let s = answer_sequent i r in
      record {
        environment = one_itself s.constraints _ _ (term_itself r.findings.values fit.values i.environment e);
        predicate = one_itself s.constraints _ _ (term_itself r.findings.values fit.values i.predicate p);
        constraints = λ y h. inr (subst (Among s.constraints) (sym (constraints_itself r.findings.constraints fit.left fit.right y h)) h);
        hidden = λ h k. absurd k;
        open_goals = λ g k. goals_themselves r.findings.open_goals fit.goals g k;
      }

-- an assumption that is usable is so further on
usable_later : (b : Assumed) (A : List Assumed) (s : Sequent) → IsUsable A s → IsUsable (b ∷ A) s
usable_later b A s u = record { number = suc u.number; assumed = u.assumed; found = u.found; behind = u.behind; same = u.same }

usable_step : (k : PathKind) (A : List Assumed) (s : Sequent) → IsUsable A s → IsUsable (passed k A) s
usable_step coinductive A s u = record { number = u.number; assumed = put_behind u.assumed; found = get-passed A u.number u.assumed u.found; behind = refl; same = u.same }
usable_step unknown A s u = u
usable_step inductive A s u = u
usable_step forced_ambiguity A s u = u

usable_own : (x : Entry) (A : List Assumed) (s : Sequent) → IsUsable A s → IsUsable (with_own x A) s
usable_own x A s u = elim (either (x.is_read && is_certain x.certainty)) [ inl e ↦ rw e (usable_later (record { sequent = answer_sequent x.input x.response; is_behind = false }) A s u) | inr e ↦ rw e u ]

-- assumed, maybe not behind a step
record IsAssumed (A : List Assumed) (s : Sequent) : Type 0 where
  pub number : ℕ
  pub assumed : Assumed
  pub found : slice_get A number ≡ Some assumed
  pub same : assumed.sequent ≡ s

assumed_step : (k : PathKind) (A : List Assumed) (s : Sequent) → IsAssumed A s → IsAssumed (passed k A) s
assumed_step coinductive A s u = record { number = u.number; assumed = put_behind u.assumed; found = get-passed A u.number u.assumed u.found; same = u.same }
assumed_step unknown A s u = u
assumed_step inductive A s u = u
assumed_step forced_ambiguity A s u = u

assumed_own : (x : Entry) (A : List Assumed) (s : Sequent) → IsAssumed A s → IsAssumed (with_own x A) s
assumed_own x A s u = elim (either (x.is_read && is_certain x.certainty)) [
  | inl e ↦ rw e (record { number = suc u.number; assumed = u.assumed; found = u.found; same = u.same })
  | inr e ↦ rw e u
]

own_assumed : (x : Entry) (A : List Assumed) → IsTrue x.is_read → x.certainty ≡ certain → IsAssumed (with_own x A) (answer_sequent x.input x.response)
own_assumed x A h e =
    let q : x.is_read ≡ true = h in
    rw (q, e) (record { number = 0; assumed = record { sequent = answer_sequent x.input x.response; is_behind = false }; found = refl; same = refl })

first_entry : (a b : Entry) (xs : List Entry) → slice_get (a ∷ xs) 0 ≡ Some b → a ≡ b
first_entry a b xs e = let z : Some a ≡ Some b = e in cc z

read_assumed : (st : List Entry) (n : ℕ) (x : Entry) → slice_get st n ≡ Some x → IsTrue x.is_read → x.certainty ≡ certain → IsAssumed (assumptions st) (answer_sequent x.input x.response)
read_assumed [] n x e h c = absurd (no_entry n x e)
read_assumed (y ∷ st) zero x e h c =
    let same = first_entry y x st e in
    subst (λ z. IsAssumed (with_own y (passed y.kind (assumptions st))) (answer_sequent z.input z.response)) same
    (own_assumed y (passed y.kind (assumptions st)) (subst (λ z. IsTrue z.is_read) (sym same) h) (subst (λ z. z.certainty ≡ certain) (sym same) c))
read_assumed (y ∷ st) (suc n) x e h c =
    assumed_own y (passed y.kind (assumptions st)) _ (assumed_step y.kind (assumptions st) _ (read_assumed st n x e h c))

-- behind a coinductive step each assumption is usable
coinductive_usable : (k : PathKind) (A : List Assumed) (s : Sequent) → k ≡ coinductive → IsAssumed A s → IsUsable (passed k A) s
coinductive_usable k A s e u =
    subst (λ z. IsUsable (passed z A) s) (sym e)
    (record { number = u.number; assumed = put_behind u.assumed; found = get-passed A u.number u.assumed u.found; behind = refl; same = u.same })

stronger_coinductive : (a b : PathKind) → stronger a b ≡ coinductive → (a ≡ coinductive) ⊎ (b ≡ coinductive)
stronger_coinductive forced_ambiguity b e = cc e
stronger_coinductive coinductive b e = inl refl
stronger_coinductive unknown coinductive e = inr refl
stronger_coinductive unknown inductive e = cc e
stronger_coinductive unknown unknown e = cc e
stronger_coinductive unknown forced_ambiguity e = cc e
stronger_coinductive inductive b e = inr e

-- a coinductive path leads back to an entry that was read: its provisional Yes may be used
pub back_usable : (st : List Entry) (n : ℕ) (k : PathKind) (x : Entry) → slice_get st n ≡ Some x → IsTrue x.is_read → x.certainty ≡ certain → path_kind st n k ≡ coinductive → IsUsable (passed k (assumptions st)) (answer_sequent x.input x.response)
back_usable [] n k x e h c p = absurd (no_entry n x e)
back_usable (y ∷ st) zero k x e h c p = coinductive_usable k (assumptions (y ∷ st)) _ p (read_assumed (y ∷ st) zero x e h c)
back_usable (y ∷ st) (suc n) k x e h c p = ⊎_elim
    (λ q. coinductive_usable k (assumptions (y ∷ st)) _ q (read_assumed (y ∷ st) (suc n) x e h c))
    (λ q. usable_step k (assumptions (y ∷ st)) _ (usable_own y (passed y.kind (assumptions st)) _ (back_usable st n y.kind x e h c q)))
    (stronger_coinductive k (path_kind st n y.kind) p)

pub back_derived : (m : Meaning) (mode : Mode) (st : List Entry) (n : ℕ) (k : PathKind) (x : Entry) → slice_get st n ≡ Some x → IsEntry x → IsTrue x.is_read → x.certainty ≡ certain → path_kind st n k ≡ coinductive
    → IsDerivedFrom m mode (passed k (assumptions st)) (answer_sequent x.input x.response)
back_derived m mode st n k x e i h c p =
    record { sequent = answer_sequent x.input x.response; reached = inr (back_usable st n k x e h c p); instance = itself; is_instance = answer_itself x.response x.input i.environment i.predicate i.fits }

-- what was derived before entries were read is derived since
own_covers : (x y : Entry) (A B : List Assumed) → IsReadSince x y → Covers A B → Covers (with_own x A) (with_own y B)
own_covers x y A B g f = elim (either (x.is_read && is_certain x.certainty)) [
  | inl e ↦ (let both = and_true x.is_read (is_certain x.certainty) e in
      let now : y.is_read ≡ true = g.read both.0 in
      let sure : is_certain y.certainty ≡ true = ap is_certain g.certainty ∙ both.1 in
      let i = g.input in
      let q = g.response in
      rw (e, now, sure, i, q) (covers_more (record { sequent = answer_sequent x.input x.response; is_behind = false }) A B f))
  | inr e ↦ rw e (elim (either (y.is_read && is_certain y.certainty)) [
    | inl d ↦ rw d (covers_later (record { sequent = answer_sequent y.input y.response; is_behind = false }) A B f)
    | inr d ↦ rw d f
  ])
]
  where
    and_true : (a b : Bool) → (a && b) ≡ true → (a ≡ true) × (b ≡ true)
    and_true true b e = (refl, e)
    and_true false b e = cc e

pub read_since_covers : (xs ys : List Entry) → AreReadSince xs ys → Covers (assumptions xs) (assumptions ys)
read_since_covers [] [] h = covers_none []
read_since_covers [] (y ∷ ys) h = absurd h
read_since_covers (x ∷ xs) [] h = absurd h
read_since_covers (x ∷ xs) (y ∷ ys) h =
    own_covers x y (passed x.kind (assumptions xs)) (passed y.kind (assumptions ys)) h.0
    (subst (λ k. Covers (passed x.kind (assumptions xs)) (passed k (assumptions ys))) (sym (kinds h.0)) (covers_passed x.kind (assumptions xs) (assumptions ys) (read_since_covers xs ys h.1)))
  where
    kinds : IsReadSince x y → y.kind ≡ x.kind
    kinds g = g.kind

pub derived_since : (m : Meaning) (mode : Mode) (k : PathKind) (xs ys : List Entry) (t : Sequent) → AreReadSince xs ys → IsDerivedFrom m mode (passed k (assumptions xs)) t → IsDerivedFrom m mode (passed k (assumptions ys)) t
derived_since m mode k xs ys t h x = derived_more m mode (passed k (assumptions xs)) (passed k (assumptions ys)) t (covers_passed k (assumptions xs) (assumptions ys) (read_since_covers xs ys h)) x

-- answers that say the same
pub same_said : (i : CanonicalInput) (r q : Response) → SaysSame r q → answer_sequent i r ≡ answer_sequent i q
same_said i r q h = let a = h.values in let b = h.constraints in let c = h.kinds in let d = h.open_goals in rw (a, b, c, d) refl

-- the answer of a head's last round: it is derived from what the entries below assume, if its provisional answer was not
-- read, or says the same
pub head_closed : (m : Meaning) (mode : Mode) (x : Entry) (st : List Entry) (r : Response) → (IsTrue x.is_read → x.certainty ≡ certain → SaysSame x.response r)
    → IsDerivedFrom m mode (assumptions (x ∷ st)) (answer_sequent x.input r) → IsDerivedFrom m mode (passed x.kind (assumptions st)) (answer_sequent x.input r)
head_closed m mode x st r final d = elim (either (x.is_read && is_certain x.certainty)) [
  | inl e ↦ (let both = and_certain x.is_read x.certainty e in
      let same : answer_sequent x.input x.response ≡ answer_sequent x.input r = same_said x.input x.response r (final both.0 both.1) in
      let d' : IsDerivedFrom m mode (record { sequent = answer_sequent x.input x.response; is_behind = false } ∷ passed x.kind (assumptions st)) (answer_sequent x.input r) = rw e at d in
      close_head m mode (passed x.kind (assumptions st)) (answer_sequent x.input r)
      (subst (λ s. IsDerivedFrom m mode (record { sequent = s; is_behind = false } ∷ passed x.kind (assumptions st)) (answer_sequent x.input r)) same d'))
  | inr e ↦ rw e at d
]
  where
    and_certain : (a : Bool) (c : Certainty) → (a && is_certain c) ≡ true → IsTrue a × (c ≡ certain)
    and_certain true certain e = (refl, refl)
    and_certain true (perhaps c b) e = cc e
    and_certain false c e = cc e
