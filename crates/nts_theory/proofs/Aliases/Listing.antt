-- Finitely many aliases settle what settles.
use Rattle.std.proofs.Common.{◌≡◌, inl, inr, ⊎_elim, ℕ, zero, suc, ◌<◌, List, [], ◌∷◌, refl, sym, ap, arith, subst}
use Rattle.nts_model.specs.declared.labels.Variance.{Variance}
use Rattle.nts_model.specs.declared.labels.Variance.TheVariants as variance
use Rattle.nts_model.specs.Terms.Trees.{Tree, empty, more, node}
use Rattle.nts_model.specs.Tables.Worlds.{World, inst}
use Rattle.nts_model.specs.Derivations.Related.{times, first_variance, rest_variances, function_variances, constructor, function, value, alias, one_tree, regions, constructors, functions, values, open_aliases, aliases, subtypes, no_more, and_more}
use Rattle.nts_model.specs.Lists.{Among}
use Rattle.nts_model.specs.Derivations.Rules.{chosen, kept_empty, kept_more, kept_node}
use Rattle.nts_variance_model.specs.Variances.Judging.{Judging, AllStand, IsSettled, IsValueOf, Normalizes, Along, AreAlong, Settles, IsLawfulJudging}
use Rattle.nts_variance_model.specs.Variances.Listing.{Lists, by_lists, AreOf}
use Rattle.nts_variance_model.specs.Variances.Relations.{Relating, SettlesIn, AllSettleIn}
use Rattle.nts_theory.proofs.Derivations.Flattening.{joined, among_left, among_right, among_joined}
use Rattle.nts_theory.proofs.Aliases.Weakening.{related_weaker, are_related_weaker}
use Rattle.nts_model.proofs.Tables.Under.{same_or_other}
use Rattle.nts_theory.proofs.Derivations.Monotone.{replaced_more}
use Rattle.nts_variance_model.proofs.Variances.SettleRows.{alias_or_none}

pub lists_lawful : (J : Judging) (s : Lists) → IsLawfulJudging J → AreOf J s → IsLawfulJudging (by_lists J s)
lists_lawful J s law h =
    record { one = law.one; trivial = law.trivial; alone = λ a v i j. law.alone a v (h.stands a i) (h.normal a v j); kind = λ a v j. law.kind a v (h.normal a v j) }

-- more aliases that stand settle more
pub stand_more : (S T : Tree → Type 0) (t : Tree) → ((a : Tree) → S a → T a) → AllStand S t → AllStand T t
stand_more S T empty f h = tt
stand_more S T (more a b) f h = (stand_more S T a f h.0, stand_more S T b f h.1)
stand_more S T (node l c) f h = ((λ i. f (node l c) (h.0 i)), stand_more S T c f h.1)

pub record IsWider (J K : Judging) : Type 0 where
  pub declared : K.declared ≡ J.declared
  pub stands : (a : Tree) → J.stands a → K.stands a
  pub normal : (a v : Tree) → J.normal a v → K.normal a v

no_lists : Lists
no_lists = record { stands = []; normal = [] }

both_lists : Lists → Lists → Lists
both_lists s t = record { stands = joined s.stands t.stands; normal = joined s.normal t.normal }

module _ (J : Judging) where
  -- what needs finitely many aliases
  pub record Needs (X : Judging → Type 0) : Type 0 where
    pub lists : Lists
    pub are : AreOf J lists
    pub holds : X (by_lists J lists)

  abbrev Grows : (Judging → Type 0) → Type 0
  Grows X = (s t : Lists) → ((a : Tree) → Among s.stands a → Among t.stands a) → ((a v : Tree) → Among s.normal (a, v) → Among t.normal (a, v)) → X (by_lists J s) → X (by_lists J t)

  none_of : AreOf J no_lists
  unfolding no_lists
  none_of = record { stands = λ a i. absurd i; normal = λ a v i. absurd i }

  both_of : (s t : Lists) → AreOf J s → AreOf J t → AreOf J (both_lists s t)
  unfolding both_lists
  both_of s t p q =
      record {
        stands = λ a i. ⊎_elim (p.stands a) (q.stands a) (among_joined s.stands t.stands a i);
        normal = λ a v i. ⊎_elim (p.normal a v) (q.normal a v) (among_joined s.normal t.normal (a, v) i);
      }

  needs_both : (X Y : Judging → Type 0) → Grows X → Grows Y → Needs X → Needs Y → Needs (λ K. X K × Y K)
  unfolding both_lists
  needs_both X Y f g x y =
      record {
        lists = both_lists x.lists y.lists;
        are = both_of x.lists y.lists x.are y.are;
        holds = (
          f x.lists (both_lists x.lists y.lists) (λ a i. among_left x.lists.stands y.lists.stands a i) (λ a v i. among_left x.lists.normal y.lists.normal (a, v) i) x.holds,
          g y.lists (both_lists x.lists y.lists) (λ a i. among_right x.lists.stands y.lists.stands a i) (λ a v i. among_right x.lists.normal y.lists.normal (a, v) i) y.holds,
        );
      }

  needs_then : (X Y : Judging → Type 0) → ((s : Lists) → X (by_lists J s) → Y (by_lists J s)) → Needs X → Needs Y
  needs_then X Y f x = record { lists = x.lists; are = x.are; holds = f x.lists x.holds }

  settled_grows : (t : Tree) → Grows (λ K. IsSettled K t)
  settled_grows t s r f g h = stand_more (Among s.stands) (Among r.stands) t f h

  normalizes_grows : (t u : Tree) → Grows (λ K. Normalizes K t u)
  normalizes_grows t u s r f g h = replaced_more (λ a v x. (settled_grows v s r f g x.0, ⊎_elim (λ e. inl e) (λ n. inr (g a v n)) x.1)) h

  along_grows : (v : Variance) (a b : Tree) → Grows (λ K. Along K v a b)
  along_grows v a b s r f g h = related_weaker (λ t x. settled_grows t s r f g x) (λ x y. y) h

  -- a settled tree
  one_stands : (a : Tree) → J.stands a → Needs (λ K. K.stands a)
  one_stands a h = record { lists = record { stands = a ∷ []; normal = [] }; are = record { stands = λ b i. ⊎_elim (λ e. subst J.stands (sym e) h) (λ z. absurd z) i; normal = λ b v i. absurd i }; holds = inl refl }

  pub needs_settled : (t : Tree) → IsSettled J t → Needs (λ K. IsSettled K t)
  needs_settled empty h = record { lists = no_lists; are = none_of; holds = tt }
  needs_settled (more a b) h = needs_both (λ K. IsSettled K a) (λ K. IsSettled K b) (settled_grows a) (settled_grows b) (needs_settled a h.0) (needs_settled b h.1)
  needs_settled (node l c) h = ⊎_elim
      (λ i. needs_then (λ K. K.stands (node l c) × IsSettled K c) (λ K. IsSettled K (node l c)) (λ s x. ((λ j. x.0), x.1))
      (needs_both (λ K. K.stands (node l c)) (λ K. IsSettled K c) (λ s r f g x. f (node l c) x) (settled_grows c) (one_stands (node l c) (h.0 i)) (needs_settled c h.1)))
      (λ none. needs_then (λ K. IsSettled K c) (λ K. IsSettled K (node l c)) (λ s x. ((λ j. absurd (none j)), x)) (needs_settled c h.1)) (alias_or_none (node l c))

  -- a settled value
  pair_normal : (a v b u : Tree) → J.normal a v → b ≡ a → u ≡ v → J.normal b u
  pair_normal a v b u h i j = subst (λ z. J.normal z u) (sym i) (subst (J.normal a) (sym j) h)

  one_normal : (a v : Tree) → J.normal a v → Needs (λ K. K.normal a v)
  one_normal a v h =
      let it : Tree × Tree = (a, v) in
      record { lists = record { stands = []; normal = it ∷ [] }; are = record { stands = λ b i. absurd i; normal = λ b u i. ⊎_elim (λ e. pair_normal a v b u h (ap (λ (p : Tree × Tree). p.0) e) (ap (λ (p : Tree × Tree). p.1) e)) (λ z. absurd z) i }; holds = inl refl }

  needs_value : (a v : Tree) → IsValueOf J a v → Needs (λ K. IsValueOf K a v)
  needs_value a v x = ⊎_elim
      (λ e. needs_then (λ K. IsSettled K v) (λ K. IsValueOf K a v) (λ s y. (y, inl e)) (needs_settled v x.0))
      (λ n. needs_then (λ K. IsSettled K v × K.normal a v) (λ K. IsValueOf K a v) (λ s y. (y.0, inr y.1))
      (needs_both (λ K. IsSettled K v) (λ K. K.normal a v) (settled_grows v) (λ s r f g y. g a v y) (needs_settled v x.0) (one_normal a v n))) x.1

  pub needs_normal : (t u : Tree) → Normalizes J t u → Needs (λ K. Normalizes K t u)
  needs_normal t u (chosen found closed x) = needs_then (λ K. IsValueOf K t u) (λ K. Normalizes K t u) (λ s y. chosen found closed y) (needs_value t u x)
  needs_normal t u kept_empty = record { lists = no_lists; are = none_of; holds = kept_empty }
  needs_normal t u (kept_more {a = a} {b = b} {s = x} {t = y} p q) =
      needs_then (λ K. Normalizes K a b × Normalizes K x y) (λ K. Normalizes K (more a x) (more b y)) (λ s z. kept_more z.0 z.1)
      (needs_both (λ K. Normalizes K a b) (λ K. Normalizes K x y) (normalizes_grows a b) (normalizes_grows x y) (needs_normal a b p) (needs_normal x y q))
  needs_normal t u (kept_node {l = l} {c = c} {d = d} none p) = needs_then (λ K. Normalizes K c d) (λ K. Normalizes K (node l c) (node l d)) (λ s z. kept_node none z) (needs_normal c d p)

  -- trees related without premises
  mutual
    pub needs_along : {v : Variance} {a b : Tree} → Along J v a b → Needs (λ K. Along K v a b)
    needs_along (one_tree {v = v} {t = t} h) = needs_then (λ K. IsSettled K t) (λ K. Along K v t t) (λ s x. one_tree x) (needs_settled t h)
    needs_along (regions i j h) = record { lists = no_lists; are = none_of; holds = regions i j h }
    needs_along (constructors {v = v} {i = i} {ts = ts} {us = us} rs) = needs_then (λ K. AreAlong K v (J.declared i) ts us) (λ K. Along K v (constructor i ts) (constructor i us)) (λ s x. constructors x) (needs_rows rs)
    needs_along (functions {v = v} {sorts = ss} {ts = ts} {us = us} rs) = needs_then (λ K. AreAlong K v (function_variances ts) ts us) (λ K. Along K v (function ss ts) (function ss us)) (λ s x. functions x) (needs_rows rs)
    needs_along (values {v = v} {b = b} {t = t} {u = u} r) = needs_then (λ K. Along K variance.Invariant t u) (λ K. Along K v (value b t) (value b u)) (λ s x. values x) (needs_along r)
    needs_along (open_aliases {v = v} {ts = ts} {us = us} h i j rs) = needs_then (λ K. AreAlong K v [] ts us) (λ K. Along K v (alias h ts) (alias h us)) (λ s x. open_aliases h i j x) (needs_rows rs)
    needs_along (aliases found _ _ p) = absurd p
    needs_along (subtypes x n i j _ _ p) = absurd p

    needs_rows : {v : Variance} {ws : List Variance} {ts us : Tree} → AreAlong J v ws ts us → Needs (λ K. AreAlong K v ws ts us)
    needs_rows no_more = record { lists = no_lists; are = none_of; holds = no_more }
    needs_rows (and_more {v = v} {ws = ws} {a = a} {b = b} {ts = ts} {us = us} r rs) =
        needs_then (λ K. Along K (times v (first_variance ws)) a b × AreAlong K v (rest_variances ws) ts us) (λ K. AreAlong K v ws (more a ts) (more b us)) (λ s x. and_more x.0 x.1)
        (needs_both (λ K. Along K (times v (first_variance ws)) a b) (λ K. AreAlong K v (rest_variances ws) ts us) (along_grows (times v (first_variance ws)) a b)
        (λ s q f g h. are_related_weaker (λ t x. settled_grows t s q f g x) (λ x y. y) h) (needs_along r) (needs_rows rs))

  -- what settles needs finitely many aliases
  settles_grows : (v : Variance) (a b : Tree) → Grows (λ K. Settles K v a b)
  settles_grows v a b s t f g h =
      record { left = h.left; right = h.right; of_left = normalizes_grows a h.left s t f g h.of_left; of_right = normalizes_grows b h.right s t f g h.of_right; along = along_grows v h.left h.right s t f g h.along }

  pub needs_settles : (v : Variance) (a b : Tree) → Settles J v a b → Needs (λ K. Settles K v a b)
  needs_settles v a b h =
      needs_then (λ K. (Normalizes K a h.left × Normalizes K b h.right) × Along K v h.left h.right) (λ K. Settles K v a b)
      (λ s x. record { left = h.left; right = h.right; of_left = x.0.0; of_right = x.0.1; along = x.1 })
      (needs_both (λ K. Normalizes K a h.left × Normalizes K b h.right) (λ K. Along K v h.left h.right)
      (λ s t f g x. (normalizes_grows a h.left s t f g x.0, normalizes_grows b h.right s t f g x.1)) (along_grows v h.left h.right)
      (needs_both (λ K. Normalizes K a h.left) (λ K. Normalizes K b h.right) (normalizes_grows a h.left) (normalizes_grows b h.right) (needs_normal a h.left h.of_left) (needs_normal b h.right h.of_right))
      (needs_along h.along))

  -- .. and so do pairs
  all_grow : (w : World) (ps : List Relating) → Grows (λ K. AllSettleIn K w ps)
  all_grow w [] s t f g x = tt
  all_grow w (p ∷ ps) s t f g x = (settles_grows p.variance (inst w p.left) (inst w p.right) s t f g x.0, all_grow w ps s t f g x.1)

  pub needs_all : (w : World) (ps : List Relating) → AllSettleIn J w ps → Needs (λ K. AllSettleIn K w ps)
  needs_all w [] h = record { lists = no_lists; are = none_of; holds = tt }
  needs_all w (p ∷ ps) h =
      needs_both (λ K. SettlesIn K w p) (λ K. AllSettleIn K w ps) (settles_grows p.variance (inst w p.left) (inst w p.right)) (all_grow w ps) (needs_settles p.variance (inst w p.left) (inst w p.right) h.0) (needs_all w ps h.1)

  -- .. and so do the trees of a world's first n variables
  abbrev pub FirstSettled : ℕ → World → Judging → Type 0
  FirstSettled n w K = (m : ℕ) → m < n → IsSettled K (w.tree m)

  pub needs_world : (n : ℕ) (w : World) → FirstSettled n w J → Needs (FirstSettled n w)
  needs_world zero w h = record { lists = no_lists; are = none_of; holds = λ m l. absurd (omega (arith, l)) }
  needs_world (suc n) w h =
      needs_then (λ K. FirstSettled n w K × IsSettled K (w.tree n)) (FirstSettled (suc n) w)
      (λ s x m l. ⊎_elim (λ (e : m ≡ n). subst (λ z. IsSettled (by_lists J s) (w.tree z)) (sym e) x.1) (λ (d : m ≡ n → ⊥). x.0 m (omega (arith, l, d))) (same_or_other m n))
      (needs_both (FirstSettled n w) (λ K. IsSettled K (w.tree n)) (λ s t f g x m l. settled_grows (w.tree m) s t f g (x m l)) (settled_grows (w.tree n)) (needs_world n w (λ m l. h m (omega (arith, l)))) (needs_settled (w.tree n) (h n (omega arith))))

  -- what settles by the lists settles
  pub settles_by_lists : (s : Lists) → AreOf J s → (v : Variance) (a b : Tree) → Settles (by_lists J s) v a b → Settles J v a b
  settles_by_lists s h v a b x =
      record {
        left = x.left;
        right = x.right;
        of_left = replaced_more (λ p q y. (stand_more (Among s.stands) J.stands q h.stands y.0, ⊎_elim (λ e. inl e) (λ n. inr (h.normal p q n)) y.1)) x.of_left;
        of_right = replaced_more (λ p q y. (stand_more (Among s.stands) J.stands q h.stands y.0, ⊎_elim (λ e. inl e) (λ n. inr (h.normal p q n)) y.1)) x.of_right;
        along = related_weaker (λ t y. stand_more (Among s.stands) J.stands t h.stands y) (λ z y. y) x.along;
      }
