-- One goal has one height and one answer, and goals are lower than the goal that they serve.
use Rattle.std.proofs.Common.{◌≡◌, inl, inr, ℕ, suc, ◌<◌, ◌≤◌, true, false, List, ◌∷◌, refl, sym, ap, subst, ◌∙◌, arith}
use Rattle.std.specs.Prelude.{Bool, max, false}
use Rattle.nts_model.specs.declared.labels.ClauseHead.TheVariants as clause
use Rattle.nts_model.specs.declared.labels.Label.TheVariants as label
use Rattle.nts_model.specs.Terms.Trees.{Tree, node, any_label, is_infer, IsClosed, IsFormed}
use Rattle.nts_model.specs.Derivations.Related.{pair, unbound}
use Rattle.nts_model.specs.Lists.{Among}
use Rattle.nts_model.specs.Derivations.Sequents.{Premise}
use Rattle.nts_model.specs.Derivations.Rules.{Mode, IsHandlers}
use Rattle.nts_model.specs.Terms.Substitutions.{filled}
use Rattle.nts_model.specs.Derivations.Handlers.{Handler, Candidate, Judgements}
use Rattle.nts_theory.specs.Affirming.{IsAffirmed, feature_allowed, has_objects, named_const, value_const, error_const, error_type, evaluated_const, IsDenied}
use Rattle.nts_theory.proofs.Refutation.Affirming.{affirmed_no_handlers, denied_no_handlers}
use Rattle.nts_decisions.proofs.OwnWays.{says_way, way_says, decidable_no_way, region_no_way, judged_no_way, one_way}
use Rattle.nts_decisions.specs.Deciding.{blurred, blurred_candidate, IsDecidable, SaysOfRegion, IsPlainGoal, IsRegionGoal, IsJudged, IsJudgedGoal, HasWayAs, IsOwnWayGoal, IsUniform, opened_next, IsDecided, by_candidates, by_region, by_judgement, by_own_way, OneHolds, none_left, then_fails, then_holds, CandidateIs, is_unmet, is_met, GoalsAre, all_yes, one_yes, one_no}

pub record AreSame (n m : ℕ) (b c : Bool) : Type 0 where
  pub height : n ≡ m
  pub answer : b ≡ c

one_max : (n m k n2 m2 k2 : ℕ) → n ≡ max m k → n2 ≡ max m2 k2 → m ≡ m2 → k ≡ k2 → n ≡ n2
one_max n m k n2 m2 k2 e f p q = cc

-- a goal of a trait says nothing of a region
says_one : (s : Tree) → IsDecidable s → SaysOfRegion s → ⊥
says_one (node (label.Clause (clause.Trait i)) ts) a b = b
says_one (node (label.Clause (clause.HostEffect i)) ts) a b = b
says_one s a b = absurd a

one_said : (s t : Tree) → unbound s ≡ unbound t → s ≡ t
one_said s t q = cc q

pub plain_or_region : (e g : Tree) → IsPlainGoal e g → IsRegionGoal e g → ⊥
plain_or_region e g p y =
    let a = p.asked in
    says_one y.statement (subst IsDecidable (one_said a.statement y.statement (sym a.binds_nothing ∙ y.binds_nothing)) p.kind) y.says

-- no goal of a trait is judged, nor one that says something of a region, and none is judged both ways
trait_handlers : (s : Tree) → IsDecidable s → IsHandlers s
trait_handlers (node (label.Clause (clause.Trait i)) ts) d = tt
trait_handlers (node (label.Clause (clause.HostEffect i)) ts) d = tt
trait_handlers s d = absurd d

judged_no_trait : (j : Judgements) (e s : Tree) (b : Bool) → IsJudged j e s b → IsDecidable s → ⊥
judged_no_trait j e s true x d = affirmed_no_handlers j e s x (trait_handlers s d)
judged_no_trait j e s false x d = denied_no_handlers j s x (trait_handlers s d)

affirmed_no_region : (j : Judgements) (e s : Tree) → IsAffirmed j e s → SaysOfRegion s → ⊥
affirmed_no_region j e s (feature_allowed x) h = h
affirmed_no_region j e s (has_objects x) h = h
affirmed_no_region j e s named_const h = h
affirmed_no_region j e s value_const h = h
affirmed_no_region j e s error_const h = h
affirmed_no_region j e s error_type h = h
affirmed_no_region j e s (evaluated_const x) h = h

judged_no_region : (j : Judgements) (e s : Tree) (b : Bool) → IsJudged j e s b → SaysOfRegion s → ⊥
judged_no_region j e s true x h = affirmed_no_region j e s x h
judged_no_region j e s false x h = subst SaysOfRegion x.is h

no_clash : true ≡ false → ⊥
no_clash q = cc q

not_both : (j : Judgements) (e s : Tree) → IsAffirmed j e s → IsDenied j s → ⊥
not_both j e s (has_objects {i = i} x) d = no_clash (sym x ∙ (let same : i ≡ d.of_trait = (let e = d.is in cc e) in ap j.is_dyn_compatible same) ∙ d.has_none)
not_both j e s (feature_allowed x) d = (let e = d.is in cc e)
not_both j e s named_const d = (let e = d.is in cc e)
not_both j e s value_const d = (let e = d.is in cc e)
not_both j e s error_const d = (let e = d.is in cc e)
not_both j e s error_type d = (let e = d.is in cc e)
not_both j e s (evaluated_const x) d = (let e = d.is in cc e)

one_judgement : (j : Judgements) (e s : Tree) (b c : Bool) → IsJudged j e s b → IsJudged j e s c → b ≡ c
one_judgement j e s true true x y = refl
one_judgement j e s false false x y = refl
one_judgement j e s true false x y = absurd (not_both j e s x y)
one_judgement j e s false true x y = absurd (not_both j e s y x)

-- it is judged as it stands
pub judged_itself : (h : Handler) (e g : Tree) (b : Bool) (y : IsJudgedGoal h e g b) → IsJudged h.judges e y.statement b
judged_itself h e g b y =
    let f : IsFormed (pair e (unbound y.statement)) = subst (λ z. IsFormed (pair e z)) y.binds_nothing y.formed in
    y.alike e y.statement (f.0, (f.1.0.1.1.0, tt)) y.blurred_environment y.blurred

pub plain_or_judged : (h : Handler) (e g : Tree) (b : Bool) → IsPlainGoal e g → IsJudgedGoal h e g b → ⊥
plain_or_judged h e g b p y =
    let a = p.asked in
    judged_no_trait h.judges e y.statement b (judged_itself h e g b y) (subst IsDecidable (one_said a.statement y.statement (sym a.binds_nothing ∙ y.binds_nothing)) p.kind)

pub region_or_judged : (h : Handler) (e g : Tree) (b : Bool) → IsRegionGoal e g → IsJudgedGoal h e g b → ⊥
region_or_judged h e g b r y =
    judged_no_region h.judges e y.statement b (judged_itself h e g b y) (subst SaysOfRegion (one_said r.statement y.statement (sym r.binds_nothing ∙ y.binds_nothing)) r.says)

pub judged_once : (h : Handler) (e g : Tree) (b c : Bool) → IsJudgedGoal h e g b → IsJudgedGoal h e g c → b ≡ c
judged_once h e g b c x y =
    let same : x.statement ≡ y.statement = one_said x.statement y.statement (sym x.binds_nothing ∙ y.binds_nothing) in
    one_judgement h.judges e y.statement b c (subst (λ z. IsJudged h.judges e z b) same (judged_itself h e g b x)) (judged_itself h e g c y)

-- it has its way as it stands
pub way_itself : (h : Handler) (e g : Tree) (x : Candidate) (y : IsOwnWayGoal h e g x) → HasWayAs h.judges e y.statement x
way_itself h e g x y =
    let f : IsFormed (pair e (unbound y.statement)) = subst (λ z. IsFormed (pair e z)) y.binds_nothing y.formed in
    y.alike e y.statement (f.0, (f.1.0.1.1.0, tt)) y.blurred_environment y.blurred

pub way_said : (h : Handler) (e g : Tree) (x : Candidate) (y : IsOwnWayGoal h e g x) → says_way y.statement
way_said h e g x y = (let w = way_itself h e g x y in way_says h.judges e y.statement w.way w.is_way)

pub plain_or_way : (h : Handler) (e g : Tree) (x : Candidate) → IsPlainGoal e g → IsOwnWayGoal h e g x → ⊥
plain_or_way h e g x p y =
    let a = p.asked in
    decidable_no_way y.statement (subst IsDecidable (one_said a.statement y.statement (sym a.binds_nothing ∙ y.binds_nothing)) p.kind) (way_said h e g x y)

pub region_or_way : (h : Handler) (e g : Tree) (x : Candidate) → IsRegionGoal e g → IsOwnWayGoal h e g x → ⊥
region_or_way h e g x r y =
    region_no_way y.statement (subst SaysOfRegion (one_said r.statement y.statement (sym r.binds_nothing ∙ y.binds_nothing)) r.says) (way_said h e g x y)

pub judged_or_way : (h : Handler) (e g : Tree) (b : Bool) (x : Candidate) → IsJudgedGoal h e g b → IsOwnWayGoal h e g x → ⊥
judged_or_way h e g b x j y =
    judged_no_way h.judges e y.statement b (subst (λ z. IsJudged h.judges e z b) (one_said j.statement y.statement (sym j.binds_nothing ∙ y.binds_nothing)) (judged_itself h e g b j)) (way_said h e g x y)

pub way_once : (h : Handler) (e g : Tree) (x y : Candidate) → IsOwnWayGoal h e g x → IsOwnWayGoal h e g y → x ≡ y
way_once h e g x y a b =
    let same : a.statement ≡ b.statement = one_said a.statement b.statement (sym a.binds_nothing ∙ b.binds_nothing) in
    let w : HasWayAs h.judges e b.statement x = subst (λ z. HasWayAs h.judges e z x) same (way_itself h e g x a) in
    let v = way_itself h e g y b in
    sym w.same ∙ ap blurred_candidate (one_way h.judges e b.statement w.way v.way w.is_way v.is_way) ∙ v.same

module _ (h : Handler) (mode : Mode) (e : Tree) where
  -- a goal with one environment is offered one list of candidates
  one_list : (g : Tree) (xs ys : List Candidate) → IsPlainGoal e g → IsUniform h mode e g xs → IsUniform h mode e g ys → xs ≡ ys
  one_list g xs ys p u v = sym (u.alike e g p.asked p.blurred_environment p.blurred) ∙ v.alike e g p.asked p.blurred_environment p.blurred

  pub record DecidedBy (n : ℕ) (g : Tree) (b : Bool) : Type 0 where
    pub candidates : List Candidate
    pub plain : IsPlainGoal e (opened_next e g)
    pub uniform : IsUniform h mode e (opened_next e g) candidates
    pub holds : OneHolds h mode e n candidates b

  -- .. or by what it says of a region
  pub record DecidedByRegion (n : ℕ) (g : Tree) (b : Bool) : Type 0 where
    pub region : IsRegionGoal e (opened_next e g)
    pub low : n ≡ 0
    pub yes : b ≡ true

  -- .. or as the handler judges
  pub record DecidedByJudgement (n : ℕ) (g : Tree) (b : Bool) : Type 0 where
    pub judged : IsJudgedGoal h e (opened_next e g) b
    pub low : n ≡ 0

  -- .. or by the one way in which it may hold
  pub record DecidedByWay (n : ℕ) (g : Tree) (b : Bool) : Type 0 where
    pub candidate : Candidate
    pub has_way : IsOwnWayGoal h e (opened_next e g) candidate
    pub holds : CandidateIs h mode e n candidate b

  pub data DecidedAs (n : ℕ) (g : Tree) (b : Bool) : Type 0 where
    as_offered : DecidedBy n g b → DecidedAs n g b
    as_of_region : DecidedByRegion n g b → DecidedAs n g b
    as_judged : DecidedByJudgement n g b → DecidedAs n g b
    as_its_way : DecidedByWay n g b → DecidedAs n g b

  pub decided_by : (g : Tree) (n : ℕ) (b : Bool) → IsDecided h mode e n g b → DecidedAs n g b
  decided_by g n b (by_candidates xs p u o) = as_offered (record { candidates = xs; plain = p; uniform = u; holds = o })
  decided_by g n b (by_region y) = as_of_region (record { region = y; low = refl; yes = refl })
  decided_by g n b (by_judgement y) = as_judged (record { judged = y; low = refl })
  decided_by g n b (by_own_way x y c) = as_its_way (record { candidate = x; has_way = y; holds = c })

  -- no variable but of regions stands in it once it is opened, and it is closed
  pub infer_none : (g : Tree) (n : ℕ) (b : Bool) → IsDecided h mode e n g b → any_label is_infer (pair e (opened_next e g)) ≡ false
  infer_none g n b (by_candidates xs p u o) = p.no_infer
  infer_none g n b (by_region y) = y.no_infer
  infer_none g n b (by_judgement y) = y.no_infer
  infer_none g n b (by_own_way x y c) = y.no_infer

  pub record IsClosedOnce (o : Tree) : Type 0 where
    pub statement : Tree
    pub binds_nothing : o ≡ unbound statement
    pub closed : IsClosed statement

  pub closed_once : (g : Tree) (n : ℕ) (b : Bool) → IsDecided h mode e n g b → IsClosedOnce (opened_next e g)
  closed_once g n b (by_candidates xs p u o) = (let a = p.asked in let k = a.closed in record { statement = a.statement; binds_nothing = a.binds_nothing; closed = k.1.0 })
  closed_once g n b (by_region y) = (let k = y.closed in record { statement = y.statement; binds_nothing = y.binds_nothing; closed = k.1.0 })
  closed_once g n b (by_judgement y) = (let k = y.closed in record { statement = y.statement; binds_nothing = y.binds_nothing; closed = k.1.0 })
  closed_once g n b (by_own_way x y c) = (let k = y.closed in record { statement = y.statement; binds_nothing = y.binds_nothing; closed = k.1.0 })

  decided_moved : (g k : Tree) (n : ℕ) (b : Bool) → g ≡ k → IsDecided h mode e n g b → DecidedAs n k b
  decided_moved g k n b q d = decided_by k n b (subst (λ z. IsDecided h mode e n z b) q d)

  mutual
    one_by : (k : Tree) (n m : ℕ) (b c : Bool) → DecidedAs n k b → IsDecided h mode e m k c → AreSame n m b c
    one_by k n m b c (as_offered x) (by_candidates ys p v r) = one_holds ys n m b c (subst (λ z. OneHolds h mode e n z b) (one_list (opened_next e k) x.candidates ys x.plain x.uniform v) x.holds) r
    one_by k n m b c (as_of_region x) (by_candidates ys p v r) = absurd (plain_or_region e (opened_next e k) p x.region)
    one_by k n m b c (as_judged x) (by_candidates ys p v r) = absurd (plain_or_judged h e (opened_next e k) b p x.judged)
    one_by k n m b c (as_its_way x) (by_candidates ys p v r) = absurd (plain_or_way h e (opened_next e k) x.candidate p x.has_way)
    one_by k n m b c (as_offered x) (by_region y) = absurd (plain_or_region e (opened_next e k) x.plain y)
    one_by k n m b c (as_of_region x) (by_region y) = record { height = x.low; answer = x.yes }
    one_by k n m b c (as_judged x) (by_region y) = absurd (region_or_judged h e (opened_next e k) b y x.judged)
    one_by k n m b c (as_its_way x) (by_region y) = absurd (region_or_way h e (opened_next e k) x.candidate y x.has_way)
    one_by k n m b c (as_offered x) (by_judgement y) = absurd (plain_or_judged h e (opened_next e k) c x.plain y)
    one_by k n m b c (as_of_region x) (by_judgement y) = absurd (region_or_judged h e (opened_next e k) c x.region y)
    one_by k n m b c (as_judged x) (by_judgement y) = record { height = x.low; answer = judged_once h e (opened_next e k) b c x.judged y }
    one_by k n m b c (as_its_way x) (by_judgement y) = absurd (judged_or_way h e (opened_next e k) c x.candidate y x.has_way)
    one_by k n m b c (as_offered x) (by_own_way z y d) = absurd (plain_or_way h e (opened_next e k) z x.plain y)
    one_by k n m b c (as_of_region x) (by_own_way z y d) = absurd (region_or_way h e (opened_next e k) z x.region y)
    one_by k n m b c (as_judged x) (by_own_way z y d) = absurd (judged_or_way h e (opened_next e k) b z x.judged y)
    one_by k n m b c (as_its_way x) (by_own_way z y d) = one_candidate z n m b c (subst (λ w. CandidateIs h mode e n w b) (way_once h e (opened_next e k) x.candidate z x.has_way y) x.holds) d

    one_holds : (xs : List Candidate) (n m : ℕ) (b c : Bool) → OneHolds h mode e n xs b → OneHolds h mode e m xs c → AreSame n m b c
    one_holds xs n m b c none_left none_left = record { height = refl; answer = refl }
    one_holds (x ∷ xs) n m b c (then_fails {m = n1} {k = n2} d r s) (then_fails {m = m1} {k = m2} f t u) =
        let first = one_candidate x n1 m1 false false d f in
        let rest = one_holds xs n2 m2 b c r t in
        record { height = one_max n n1 n2 m m1 m2 s u first.height rest.height; answer = rest.answer }
    one_holds (x ∷ xs) n m b c (then_holds {m = n1} {k = n2} d r s) (then_holds {m = m1} {k = m2} f t u) =
        let first = one_candidate x n1 m1 true true d f in
        let rest = one_holds xs n2 m2 false false r t in
        record { height = one_max n n1 n2 m m1 m2 s u first.height rest.height; answer = refl }
    one_holds (x ∷ xs) n m b c (then_fails {m = n1} {k = n2} d r s) (then_holds {m = m1} {k = m2} f t u) =
        (let first = one_candidate x n1 m1 false true d f in absurd (cc first.answer))
    one_holds (x ∷ xs) n m b c (then_holds {m = n1} {k = n2} d r s) (then_fails {m = m1} {k = m2} f t u) =
        (let first = one_candidate x n1 m1 true false d f in absurd (cc first.answer))

    one_candidate : (x : Candidate) (n m : ℕ) (b c : Bool) → CandidateIs h mode e n x b → CandidateIs h mode e m x c → AreSame n m b c
    one_candidate x n m b c (is_unmet u) (is_unmet v) = record { height = refl; answer = refl }
    one_candidate x n m b c (is_unmet u) (is_met vs i f gs) = absurd (u vs i)
    one_candidate x n m b c (is_met vs i f gs) (is_unmet u) = absurd (u vs i)
    one_candidate x n m b c (is_met vs i f gs) (is_met us j k hs) = one_goals x.goals vs us n m b c (λ p a. f vs us p i j a) gs hs

    one_goals : (ps : List Premise) (vs us : List Tree) (n m : ℕ) (b c : Bool) → ((p : Premise) → Among ps p → blurred (filled vs p.predicate) ≡ blurred (filled us p.predicate))
        → GoalsAre h mode e n vs ps b → GoalsAre h mode e m us ps c → AreSame n m b c
    one_goals ps vs us n m b c q all_yes all_yes = record { height = refl; answer = refl }
    one_goals (p ∷ ps) vs us n m b c q (one_yes {m = n1} {k = n2} d r s) (one_yes {m = m1} {k = m2} f t u) =
        let first = one_by (blurred (filled us p.predicate)) n1 m1 true true (decided_moved (blurred (filled vs p.predicate)) (blurred (filled us p.predicate)) n1 true (q p (inl refl)) d) f in
        let rest = one_goals ps vs us n2 m2 b c (λ o a. q o (inr a)) r t in
        record { height = one_max n (suc n1) n2 m (suc m1) m2 s u (ap suc first.height) rest.height; answer = rest.answer }
    one_goals (p ∷ ps) vs us n m b c q (one_no {m = n1} d s) (one_no {m = m1} f u) =
        let first = one_by (blurred (filled us p.predicate)) n1 m1 false false (decided_moved (blurred (filled vs p.predicate)) (blurred (filled us p.predicate)) n1 false (q p (inl refl)) d) f in
        record { height = s ∙ ap suc first.height ∙ sym u; answer = refl }
    one_goals (p ∷ ps) vs us n m b c q (one_yes {m = n1} d r s) (one_no {m = m1} f u) =
        (let first = one_by (blurred (filled us p.predicate)) n1 m1 true false (decided_moved (blurred (filled vs p.predicate)) (blurred (filled us p.predicate)) n1 true (q p (inl refl)) d) f in absurd (cc first.answer))
    one_goals (p ∷ ps) vs us n m b c q (one_no {m = n1} d s) (one_yes {m = m1} f t u) =
        (let first = one_by (blurred (filled us p.predicate)) n1 m1 false true (decided_moved (blurred (filled vs p.predicate)) (blurred (filled us p.predicate)) n1 false (q p (inl refl)) d) f in absurd (cc first.answer))

  pub one_decision : (g k : Tree) (n m : ℕ) (b c : Bool) → g ≡ k → IsDecided h mode e n g b → IsDecided h mode e m k c → AreSame n m b c
  one_decision g k n m b c q d f = one_by k n m b c (decided_moved g k n b q d) f

  -- a goal of the tree is lower than the goals above it
  pub first_below : (n m k : ℕ) → n ≡ max (suc m) k → m < n
  first_below n m k s = rw s (omega arith)

  -- a goal is not among those that are not decided so low: what is evaluated is on no stack whose goals are all higher
  abbrev pub IsHigher : ℕ → Tree → Type 0
  IsHigher n g = (m : ℕ) (c : Bool) → m ≤ n → IsDecided h mode e m g c → ⊥

  pub lower_is_higher : (n m : ℕ) (g : Tree) → m ≤ n → IsHigher n g → IsHigher m g
  lower_is_higher n m g l a k c i d = a k c (omega (arith, l, i)) d

  pub above_is_higher : (n m : ℕ) (g : Tree) (b : Bool) → IsDecided h mode e n g b → m < n → IsHigher m g
  above_is_higher n m g b d l k c i f = (let x = one_decision g g n k b c refl d f in let y : n ≡ k = x.height in omega (arith, l, i, y))
