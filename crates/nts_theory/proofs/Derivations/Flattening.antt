-- A derivation without assumptions gives a ranked proof: a node for each rule, whose rank is the height of its part of the
-- tree, and higher the more coinductive steps lead to it. A ranked proof in the place of a part of the tree gives its nodes.
use Rattle.std.specs.Prelude.{◌≡◌, ◌⊎◌, ℕ, zero, suc, ◌+◌, ◌*◌, ◌<◌, ◌≤◌, max, List, [], ◌∷◌, Some, None, slice_get, map, IsTrue, false, refl}
use Rattle.std.proofs.Common.{inl, inr, ap, sym, ◌∙◌, arith, subst}
use Rattle.nts_model.specs.Terms.Substitutions.{Instance}
use Rattle.nts_model.specs.Lists.{Among}
use Rattle.nts_model.specs.Derivations.Sequents.{PathKind, coinductive, unknown, inductive, forced_ambiguity, Premise, Sequent, IsInstance}
use Rattle.nts_model.specs.Derivations.Rules.{Meaning, Mode, proof_kind, goal_kind}
use Rattle.nts_model.specs.Derivations.Proofs.{Name, Step, Node, RestsOn, IsNormalization, Serves, IsSoundStep, IsJustified, IsRankedProof, HasProof, Assumed, put_behind, passed, Derives, DerivesAll, by_rule, by_cycle, by_ranked, all_derived, by_derivation, by_assumption}
use Rattle.nts_theory.proofs.Derivations.Monotone.{rule_more}

abbrev pub joined : {X : Type 0} → List X → List X → List X
joined [] ys = ys
joined (x ∷ xs) ys = x ∷ joined xs ys

pub among_left : {X : Type 0} (xs ys : List X) (x : X) → Among xs x → Among (joined xs ys) x
among_left [] ys x h = elim h [ ]
among_left (y ∷ xs) ys x (inl e) = inl e
among_left (y ∷ xs) ys x (inr h) = inr (among_left xs ys x h)

pub among_right : {X : Type 0} (xs ys : List X) (x : X) → Among ys x → Among (joined xs ys) x
among_right [] ys x h = h
among_right (y ∷ xs) ys x h = inr (among_right xs ys x h)

pub among_joined : {X : Type 0} (xs ys : List X) (x : X) → Among (joined xs ys) x → Among xs x ⊎ Among ys x
among_joined [] ys x h = inr h
among_joined (y ∷ xs) ys x (inl e) = inl (inl e)
among_joined (y ∷ xs) ys x (inr h) = go (among_joined xs ys x h)
  where
    go : Among xs x ⊎ Among ys x → ((x ≡ y) ⊎ Among xs x) ⊎ Among ys x
    go (inl i) = inl (inr i)
    go (inr i) = inr i

abbrev pub name_at : List Name → ℕ → Name
name_at [] j = []
name_at (x ∷ M) zero = x
name_at (x ∷ M) (suc j) = name_at M j

-- the nodes of a ranked proof in the place of a part of a tree: behind a name, above a rank
abbrev pub below_name : Name → Name → Name
below_name π x = joined x (0 ∷ π)

abbrev pub moved_step : Name → Step → Step
moved_step π s = record s { target = below_name π s.target }

abbrev pub moved_node : Name → Name → ℕ → Node → Node
moved_node π name r n = record { name = name; sequent = n.sequent; rank = r + n.rank; steps = map (moved_step π) n.steps }

abbrev pub moved_nodes : Name → ℕ → List Node → List Node
moved_nodes π r ns = map (λ n. moved_node π (below_name π n.name) r n) ns

abbrev pub next_level : PathKind → ℕ → ℕ
next_level coinductive c = suc c
next_level k c = c

module _ {m : Meaning} {mode : Mode} where
  abbrev mutual
    pub height : {A : List Assumed} {s : Sequent} → Derives m mode A s → ℕ
    height (by_rule ps terms r all) = suc (heights all)
    height (by_cycle d) = height d
    height (by_ranked nodes first r i) = first.rank

    pub heights : {A : List Assumed} {s : Sequent} {all ps : List Premise} → DerivesAll m mode A s all ps → ℕ
    heights all_derived = 0
    heights (by_derivation ι d sv rest) = max (height d) (heights rest)
    heights (by_assumption ι j a f b sv rest) = heights rest

  abbrev pub steps_of : {A : List Assumed} {s : Sequent} {all ps : List Premise} → DerivesAll m mode A s all ps → ℕ → Name → List Name → List Step
  steps_of all_derived i π M = []
  steps_of (by_derivation {p = p} ι d sv rest) i π M = record { premise = p; target = i ∷ π; instance = ι } ∷ steps_of rest (suc i) π M
  steps_of (by_assumption {p = p} ι j a f b sv rest) i π M = record { premise = p; target = name_at M j; instance = ι } ∷ steps_of rest (suc i) π M

  abbrev mutual
    pub nodes_of : {A : List Assumed} {s : Sequent} → Derives m mode A s → Name → List Name → ℕ → ℕ → List Node
    nodes_of {s = s} (by_rule ps terms r all) π M c B =
        record { name = π; sequent = s; rank = c * B + suc (heights all); steps = steps_of all 0 π M } ∷ nodes_of_all all 0 π M c B
    nodes_of (by_cycle d) π M c B = nodes_of d π (π ∷ M) c B
    nodes_of (by_ranked nodes first r i) π M c B = moved_node π π (c * B) first ∷ moved_nodes π (c * B) nodes

    pub nodes_of_all : {A : List Assumed} {s : Sequent} {all ps : List Premise} → DerivesAll m mode A s all ps → ℕ → Name → List Name → ℕ → ℕ → List Node
    nodes_of_all all_derived i π M c B = []
    nodes_of_all {s = s} (by_derivation {p = p} ι d sv rest) i π M c B =
        joined (nodes_of d (i ∷ π) M (next_level (proof_kind (goal_kind m s.predicate) p.source) c) B) (nodes_of_all rest (suc i) π M c B)
    nodes_of_all (by_assumption ι j a f b sv rest) i π M c B = nodes_of_all rest (suc i) π M c B

  -- the first node
  pub first_of : {A : List Assumed} {s : Sequent} (d : Derives m mode A s) (π : Name) (M : List Name) (c B : ℕ)
      → (n : Node) × Among (nodes_of d π M c B) n × (n.name ≡ π) × (n.sequent ≡ s) × (n.rank ≡ c * B + height d)
  first_of (by_rule ps terms r all) π M c B = (_, inl refl, refl, refl, refl)
  first_of (by_cycle d) π M c B = first_of d π (π ∷ M) c B
  first_of (by_ranked nodes first r i) π M c B = (_, inl refl, refl, refl, refl)

-- the nodes of the assumed sequents stand in the list, at their names, below what the level allows
abbrev pub Stand : List Assumed → List Name → ℕ → ℕ → List Node → Type 0
Stand A M c B F =
    (j : ℕ) (a : Assumed) → slice_get A j ≡ Some a
    → (n : Node) × Among F n × (n.name ≡ name_at M j) × (n.sequent ≡ a.sequent) × (n.rank < suc c * B) × (IsTrue a.is_behind → n.rank < c * B)

-- an element of a mapped list
pub get-put_behind : (A : List Assumed) (j : ℕ) (a : Assumed) → slice_get (map put_behind A) j ≡ Some a
    → (b : Assumed) × (slice_get A j ≡ Some b) × (put_behind b ≡ a)
get-put_behind [] j a e = absurd (none_some e)
  where
    none_some : {X : Type 0} {x : X} → None ≡ Some x → ⊥
    none_some e = cc e
get-put_behind (b ∷ A) zero a e = (b, refl, some_inj e)
  where
    some_inj : {X : Type 0} {x y : X} → Some x ≡ Some y → x ≡ y
    some_inj e = cc e
get-put_behind (b ∷ A) (suc j) a e = get-put_behind A j a e

more_room : (r c B : ℕ) → r < suc c * B → r < suc (suc c) * B
more_room r c B h = omega arith

pub stand_passed : (k : PathKind) (A : List Assumed) (M : List Name) (c B : ℕ) (F : List Node)
    → Stand A M c B F → Stand (passed k A) M (next_level k c) B F
stand_passed coinductive A M c B F st j a e =
    let (b, found, same) = get-put_behind A j a e in
    let (n, i, name, sequent, low, behind) = st j b found in
    (n, i, name, sequent ∙ ap (λ x. x.sequent) same, more_room n.rank c B low, λ t. low)
stand_passed unknown A M c B F st j a e = st j a e
stand_passed inductive A M c B F st j a e = st j a e
stand_passed forced_ambiguity A M c B F st j a e = st j a e

-- a node that follows by a rule, with sound steps
abbrev pub IsGood : Meaning → Mode → List Node → Node → Type 0
IsGood m mode F n = IsJustified m mode n × ((st : Step) → Among n.steps st → IsSoundStep m F n st)

module _ {m : Meaning} {mode : Mode} where
  pub steps_cover : {A : List Assumed} {s : Sequent} {all ps : List Premise} (rest : DerivesAll m mode A s all ps) (i : ℕ) (π : Name) (M : List Name) (q : Premise)
      → Among ps q → (st : Step) × Among (steps_of rest i π M) st × (st.premise ≡ q)
  steps_cover all_derived i π M q h = elim h [ ]
  steps_cover (by_derivation ι d sv rest) i π M q (inl e) = (_, inl refl, sym e)
  steps_cover (by_derivation ι d sv rest) i π M q (inr h) =
      let (st, x, y) = steps_cover rest (suc i) π M q h in (st, inr x, y)
  steps_cover (by_assumption ι j a f b sv rest) i π M q (inl e) = (_, inl refl, sym e)
  steps_cover (by_assumption ι j a f b sv rest) i π M q (inr h) =
      let (st, x, y) = steps_cover rest (suc i) π M q h in (st, inr x, y)

-- the node of a sequent
abbrev pub node_at : Name → Sequent → ℕ → List Step → Node
node_at π s r ss = record { name = π; sequent = s; rank = r; steps = ss }

pub serves_at : (m : Meaning) (s t : Sequent) (all : List Premise) (ι : Instance) (p : Premise) (π : Name) (r : ℕ) (ss : List Step)
    → ((q : Premise) → Among all q → RestsOn m (node_at π s r ss) q) → Serves s (Among all) ι t p → Serves s (RestsOn m (node_at π s r ss)) ι t p
serves_at m s t all ι p π r ss cover sv =
    record { environment = sv.environment; predicate = sv.predicate; constraints = sv.constraints; hidden = sv.hidden; open_goals = λ g i. cover _ (sv.open_goals g i) }

-- a step to a derived sequent descends
pub descends : (k : PathKind) (c B h hs r : ℕ) → h ≤ hs → c * B + suc hs ≤ r → (k ≡ coinductive) ⊎ (next_level k c * B + h < r)
descends coinductive c B h hs r low room = inl refl
descends unknown c B h hs r low room = inr (omega arith)
descends inductive c B h hs r low room = inr (omega arith)
descends forced_ambiguity c B h hs r low room = inr (omega arith)

-- a step to an assumed sequent descends
pub falls_back : (k : PathKind) (A : List Assumed) (M : List Name) (c B : ℕ) (F : List Node) (j : ℕ) (a : Assumed) (r : ℕ)
    → Stand A M c B F → slice_get (passed k A) j ≡ Some a → IsTrue a.is_behind → c * B ≤ r
    → (n : Node) × Among F n × (n.name ≡ name_at M j) × (n.sequent ≡ a.sequent) × ((k ≡ coinductive) ⊎ (n.rank < r))
falls_back coinductive A M c B F j a r st e b room =
    let (n, i, name, sequent, low, behind) = stand_passed coinductive A M c B F st j a e in (n, i, name, sequent, inl refl)
falls_back unknown A M c B F j a r st e b room =
    let (n, i, name, sequent, low, behind) = st j a e in let h : n.rank < c * B = behind b in (n, i, name, sequent, inr (omega arith))
falls_back inductive A M c B F j a r st e b room =
    let (n, i, name, sequent, low, behind) = st j a e in let h : n.rank < c * B = behind b in (n, i, name, sequent, inr (omega arith))
falls_back forced_ambiguity A M c B F j a r st e b room =
    let (n, i, name, sequent, low, behind) = st j a e in let h : n.rank < c * B = behind b in (n, i, name, sequent, inr (omega arith))

max_left : (a b k : ℕ) → max a b < k → a < k
max_left a b k h = omega arith

max_right : (a b k : ℕ) → max a b < k → b < k
max_right a b k h = omega arith

max_above_left : (a b : ℕ) → a ≤ max a b
max_above_left a b = omega arith

room_right : (c B a b r : ℕ) → c * B + suc (max a b) ≤ r → c * B + suc b ≤ r
room_right c B a b r h = omega arith

room_below : (c B a r : ℕ) → c * B + suc a ≤ r → c * B ≤ r
room_below c B a r h = omega arith

rank_in_level : (c B h : ℕ) → h < B → c * B + h < suc c * B
rank_in_level c B h low = omega arith

-- a head's own node stands for its assumption
stand_head : (A : List Assumed) (s : Sequent) (M : List Name) (c B : ℕ) (F : List Node) (π : Name) (n : Node)
    → Among F n → n.name ≡ π → n.sequent ≡ s → n.rank < suc c * B → Stand A M c B F
    → Stand (record { sequent = s; is_behind = false } ∷ A) (π ∷ M) c B F
stand_head A s M c B F π n found named sequent low stand zero a e =
    let same : record { sequent = s; is_behind = false } ≡ a = cc e in
    (n, found, named, sequent ∙ ap (λ x. x.sequent) same, low, λ t. let h : IsTrue false = subst IsTrue (sym (ap (λ x. x.is_behind) same)) t in cc h)
stand_head A s M c B F π n found named sequent low stand (suc j) a e = stand j a e

either : {X Y Z : Type 0} → (X → Z) → (Y → Z) → X ⊎ Y → Z
either f g (inl x) = f x
either f g (inr y) = g y

le_self : (a : ℕ) → a ≤ a
le_self a = omega arith

-- what stands in a mapped list
image_among : {X Y : Type 0} (f : X → Y) (xs : List X) (x : X) → Among xs x → Among (map f xs) (f x)
image_among f [] x h = elim h [ ]
image_among f (y ∷ xs) x (inl e) = inl (ap f e)
image_among f (y ∷ xs) x (inr h) = inr (image_among f xs x h)

among_images : {X Y : Type 0} (f : X → Y) (xs : List X) (y : Y) → Among (map f xs) y → (x : X) × Among xs x × (y ≡ f x)
among_images f [] y h = elim h [ ]
among_images f (x ∷ xs) y (inl e) = (x, inl refl, e)
among_images f (x ∷ xs) y (inr h) = (let r = among_images f xs y h in (r.0, inr r.1, r.2))

-- the nodes of a ranked proof are good where they are moved to
module _ (m : Meaning) (mode : Mode) (nodes : List Node) (ranked : IsRankedProof m mode nodes) (π : Name) (r : ℕ) (F : List Node) (within : (n : Node) → Among (moved_nodes π r nodes) n → Among F n) where
  moved_rests : (name : Name) (n : Node) (p : Premise) → RestsOn m n p → RestsOn m (moved_node π name r n) p
  moved_rests name n p (inl (s, i, e)) = inl (moved_step π s, image_among (moved_step π) n.steps s i, e)
  moved_rests name n p (inr o) = inr o

  moved_down : (k : Type 0) (a b : ℕ) → k ⊎ (a < b) → k ⊎ (r + a < r + b)
  moved_down k a b (inl x) = inl x
  moved_down k a b (inr l) = inr (omega (arith, l))

  moved_sound : (name : Name) (n : Node) (s : Step) → IsSoundStep m nodes n s → IsSoundStep m F (moved_node π name r n) (moved_step π s)
  moved_sound name n s x =
      let v = x.serves in
      record {
        node = moved_node π (below_name π x.node.name) r x.node;
        found = within _ (image_among (λ y. moved_node π (below_name π y.name) r y) nodes x.node x.found);
        named = ap (below_name π) x.named;
        serves = record { environment = v.environment; predicate = v.predicate; constraints = v.constraints; hidden = v.hidden; open_goals = λ g i. moved_rests name n _ (v.open_goals g i) };
        descends = moved_down _ x.node.rank n.rank x.descends;
      }

  pub moved_good : (name : Name) (n : Node) → Among nodes n → IsGood m mode F (moved_node π name r n)
  moved_good name n i =
      let j = ranked.justified n i in (
        record { terms = j.terms; rule = rule_more (moved_rests name n) _ _ j.rule },
        λ s k. (let z = among_images (moved_step π) n.steps s k in subst (IsSoundStep m F (moved_node π name r n)) (sym z.2) (moved_sound name n z.0 (ranked.steps n z.0 i z.1))),
      )

module _ {m : Meaning} {mode : Mode} where
  pub steps_sound : {A : List Assumed} {s : Sequent} {all ps : List Premise} (rest : DerivesAll m mode A s all ps) (i : ℕ) (π : Name) (M : List Name) (c B : ℕ) (F : List Node)
      (name : Name) (r : ℕ) (ss : List Step)
      → ((q : Premise) → Among all q → RestsOn m (node_at name s r ss) q)
      → c * B + suc (heights rest) ≤ r → Stand A M c B F
      → ((n : Node) → Among (nodes_of_all rest i π M c B) n → Among F n)
      → (st : Step) → Among (steps_of rest i π M) st → IsSoundStep m F (node_at name s r ss) st
  steps_sound all_derived i π M c B F name r ss cover room stand within st h = elim h [ ]
  steps_sound {s = s} {all = all} (by_derivation {t = t} {p = p} ι d sv rest) i π M c B F name r ss cover room stand within st (inl e) =
      let k : PathKind = proof_kind (goal_kind m s.predicate) p.source in
      let (n, found, named, sequent, rank) = first_of d (i ∷ π) M (next_level k c) B in
      let down : (k ≡ coinductive) ⊎ (next_level k c * B + height d < r) = descends k c B (height d) (max (height d) (heights rest)) r (max_above_left (height d) (heights rest)) room in
      subst (IsSoundStep m F (node_at name s r ss)) (sym e)
      (record {
        node = n;
        found = within n (among_left _ _ n found);
        named = named;
        serves = subst (λ x. Serves s (RestsOn m (node_at name s r ss)) ι x p) (sym sequent) (serves_at m s t all ι p name r ss cover sv);
        descends = subst (λ x. (k ≡ coinductive) ⊎ (x < r)) (sym rank) down;
      })
  steps_sound (by_derivation {p = p} ι d sv rest) i π M c B F name r ss cover room stand within st (inr h) =
      steps_sound rest (suc i) π M c B F name r ss cover (room_right c B (height d) (heights rest) r room) stand (λ n x. within n (among_right _ _ n x)) st h
  steps_sound {A = A} {s = s} {all = all} (by_assumption {p = p} ι j a f b sv rest) i π M c B F name r ss cover room stand within st (inl e) =
      let k : PathKind = proof_kind (goal_kind m s.predicate) p.source in
      let (n, found, named, sequent, down) = falls_back k A M c B F j a r stand f b (room_below c B (heights rest) r room) in
      subst (IsSoundStep m F (node_at name s r ss)) (sym e)
      (record {
        node = n;
        found = found;
        named = named;
        serves = subst (λ x. Serves s (RestsOn m (node_at name s r ss)) ι x p) (sym sequent) (serves_at m s a.sequent all ι p name r ss cover sv);
        descends = down;
      })
  steps_sound (by_assumption ι j a f b sv rest) i π M c B F name r ss cover room stand within st (inr h) =
      steps_sound rest (suc i) π M c B F name r ss cover room stand within st h

  cover_of : {A : List Assumed} {s : Sequent} {ps : List Premise} (all : DerivesAll m mode A s ps ps) (π : Name) (M : List Name) (r : ℕ) (q : Premise)
      → Among ps q → RestsOn m (node_at π s r (steps_of all 0 π M)) q
  cover_of all π M r q h = inl (steps_cover all 0 π M q h)

  rests : {A : List Assumed} {s : Sequent} {ps : List Premise} (all : DerivesAll m mode A s ps ps) (π : Name) (M : List Name) (r : ℕ) (q : Premise)
      → Among ps q ⊎ (IsNormalization m s.predicate × Among s.open_goals q) → RestsOn m (node_at π s r (steps_of all 0 π M)) q
  rests all π M r q (inl h) = cover_of all π M r q h
  rests all π M r q (inr o) = inr o

  mutual
    pub sound : {A : List Assumed} {s : Sequent} (d : Derives m mode A s) (π : Name) (M : List Name) (c B : ℕ) (F : List Node)
        → height d < B → Stand A M c B F → ((n : Node) → Among (nodes_of d π M c B) n → Among F n)
        → (n : Node) → Among (nodes_of d π M c B) n → IsGood m mode F n
    sound {s = s} (by_rule ps terms r all) π M c B F low stand within n (inl e) =
        subst (IsGood m mode F) (sym e) (
          record { terms = terms; rule = rule_more (rests all π M (c * B + suc (heights all))) _ _ r },
          steps_sound all 0 π M c B F π (c * B + suc (heights all)) (steps_of all 0 π M) (cover_of all π M (c * B + suc (heights all))) (le_self _) stand (λ x h. within x (inr h)),
        )
    sound (by_rule ps terms r all) π M c B F low stand within n (inr h) =
        sound_all all 0 π M c B F (omega arith) stand (λ x i. within x (inr i)) n h
    sound {A = A} {s = s} (by_cycle d) π M c B F low stand within n h =
        let (x, found, named, sequent, rank) = first_of d π (π ∷ M) c B in
        sound d π (π ∷ M) c B F low
        (stand_head A s M c B F π x (within x found) named sequent (subst (λ y. y < suc c * B) (sym rank) (rank_in_level c B (height d) low)) stand)
        within n h
    sound (by_ranked nodes first ranked i) π M c B F low stand within n (inl e) =
        subst (IsGood m mode F) (sym e) (moved_good m mode nodes ranked π (c * B) F (λ x j. within x (inr j)) π first i)
    sound (by_ranked nodes first ranked i) π M c B F low stand within n (inr h) =
        let z = among_images (λ y. moved_node π (below_name π y.name) (c * B) y) nodes n h in
        subst (IsGood m mode F) (sym z.2) (moved_good m mode nodes ranked π (c * B) F (λ x j. within x (inr j)) (below_name π z.0.name) z.0 z.1)

    pub sound_all : {A : List Assumed} {s : Sequent} {all ps : List Premise} (rest : DerivesAll m mode A s all ps) (i : ℕ) (π : Name) (M : List Name) (c B : ℕ) (F : List Node)
        → heights rest < B → Stand A M c B F → ((n : Node) → Among (nodes_of_all rest i π M c B) n → Among F n)
        → (n : Node) → Among (nodes_of_all rest i π M c B) n → IsGood m mode F n
    sound_all all_derived i π M c B F low stand within n h = elim h [ ]
    sound_all {A = A} {s = s} (by_derivation {p = p} ι d sv rest) i π M c B F low stand within n h =
        either
        (λ x. sound d (i ∷ π) M (next_level (proof_kind (goal_kind m s.predicate) p.source) c) B F (max_left (height d) (heights rest) B low)
        (stand_passed (proof_kind (goal_kind m s.predicate) p.source) A M c B F stand) (λ y j. within y (among_left _ _ y j)) n x)
        (λ x. sound_all rest (suc i) π M c B F (max_right (height d) (heights rest) B low) stand (λ y j. within y (among_right _ _ y j)) n x)
        (among_joined _ _ n h)
    sound_all (by_assumption ι j a f b sv rest) i π M c B F low stand within n h =
        sound_all rest (suc i) π M c B F low stand within n h

pub none_stand : (j : ℕ) (a : Assumed) → slice_get [] j ≡ Some a → ⊥
none_stand j a e = cc e

-- a derivation without assumptions gives a ranked proof of each instance
pub derivation_proof : (m : Meaning) (mode : Mode) (s t : Sequent) (ι : Instance) → Derives m mode [] s → IsInstance ι s t → HasProof m mode t
derivation_proof m mode s t ι d is =
    let B : ℕ = suc (height d) in
    let F : List Node = nodes_of d [] [] 0 B in
    let (n, found, named, sequent, rank) = first_of d [] [] 0 B in
    let good : (x : Node) → Among F x → IsGood m mode F x = sound d [] [] 0 B F (omega arith) (λ j a e. absurd (none_stand j a e)) (λ x i. i) in
    record {
      nodes = F;
      first = n;
      instance = ι;
      ranked = record { justified = λ x i. (good x i).0; steps = λ x st i. (good x i).1 st };
      found = found;
      is_instance = subst (λ x. IsInstance ι x t) (sym sequent) is;
    }
