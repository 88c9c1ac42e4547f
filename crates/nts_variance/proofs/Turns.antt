-- Steps of the walk, one after another.
use Rattle.std.proofs.Common.{◌≡◌, ℕ, ◌≤◌, Bool, List, [], ◌∷◌, ◌++◌, map, length, Option, refl, sym, ap, ◌∙◌, subst}
use Rattle.nts_variance.proofs.Passes.{pass_joined}
use Rattle.nts_model.specs.declared.labels.Variance.{Variance}
use Rattle.nts_model.specs.declared.labels.Label.{Label}
use Rattle.nts_model.specs.declared.labels.Leaf.TheVariants as leaf
use Rattle.nts_model.specs.Terms.Trees.{Tree}
use Rattle.nts_model.specs.Derivations.Related.{region_constraint}
use Rattle.nts_model.specs.Terms.Substitutions.{leaf_tree}
use Rattle.nts_model.specs.Tables.Contents.{Content}
use Rattle.nts_model.specs.Tables.Resolving.{IsSound}
use Rattle.nts_model.specs.Tables.Levels.{NamesAll, term_level}
use Rattle.nts_model.specs.Tables.Worlds.{World, inst, Agrees}
use Rattle.nts_variance_model.specs.Variances.Judging.{Judging}
use Rattle.nts_variance_model.specs.Variances.Relations.{Relating, ArePairsKnown, SettledExtension}
use Rattle.nts_variance_model.specs.Variances.AnsweredGoals.{AllAnswered}
use Rattle.nts_variance_model.specs.Variances.Leaving.{Judge, judging_of, Judges}
use Rattle.nts_model.proofs.Tables.Instances.{Agrees-refl, Agrees-trans, inst-agrees}
use Rattle.nts_model.proofs.Tables.Held.{Continues-refl, Continues-trans}
use Rattle.nts_variance_model.proofs.Variances.Generalizing.{judged_agrees, settle_agrees, settle_joined}
use Rattle.nts_variance.proofs.Growing.{grown_refl, grown_trans}
use Rattle.nts_variance.proofs.PlainTerms.{stays_none, stays_then, steps_stay, trees_stay}
use Rattle.nts_variance.specs.Steps.{WalkStep, enter, build, owe, step_of, steps_of, entered}
use Rattle.nts_variance.specs.Walking.{IsChoice, SettlesOwed, KnowsStep, KnowsSteps, KnowsTrees, Walks, IsMade}
use Rattle.nts_variance.proofs.Runs.{unentered}

-- worlds that agree on a table's variables see its trees alike
trees_agree : (c : Content) (w v : World) (ts : List Tree) → Agrees (length c.slots) w v → KnowsTrees c ts → map (inst v) ts ≡ map (inst w) ts
trees_agree c w v [] a k = refl
trees_agree c w v (t ∷ ts) a k =
    let x : inst v t ≡ inst w t = inst-agrees c w v t a k.0 in
    let y = trees_agree c w v ts a k.1 in
    cc (x, y)

step_agrees : (c : Content) (w v : World) (x : WalkStep) → Agrees (length c.slots) w v → KnowsStep c x → step_of (inst v) x ≡ step_of (inst w) x
step_agrees c w v (enter p q t) a k = ap (enter p q) (inst-agrees c w v t a k)
step_agrees c w v (build F n) a k = refl
step_agrees c w v (owe p t) a k = ap (owe p) (inst-agrees c w v t a k)

pub steps_agree : (c : Content) (w v : World) (xs : List WalkStep) → Agrees (length c.slots) w v → KnowsSteps c xs → steps_of (inst v) xs ≡ steps_of (inst w) xs
steps_agree c w v [] a k = refl
steps_agree c w v (x ∷ xs) a k =
    let p = step_agrees c w v x a k.0 in
    let q = steps_agree c w v xs a k.1 in
    cc (p, q)

pub answered_front : (f : Content) (ks : List Tree) (gs new : List Relating) → AllAnswered f ks (gs ++ new) → AllAnswered f ks gs × AllAnswered f ks new
answered_front f ks [] new a = (tt, a)
answered_front f ks (g ∷ gs) new a = let r = answered_front f ks gs new a.1 in ((a.0, r.0), r.1)

-- the same extension where more is named
abbrev named_in : (J : Judging) (c d : Content) (w : World) (P Q : (Label → Option ℕ) → Type 0) → ((f : Label → Option ℕ) → Q f → P f) → SettledExtension J c d w P → SettledExtension J c d w Q
named_in J c d w P Q g e = record { world = e.world; agrees = e.agrees; solves = e.solves; settled = e.settled; names = λ f k n. e.names f k (g f n) }

pub judges_agree : (declared : ℕ → List Variance) (j : Judge declared) (n : ℕ) (w v : World) → Agrees n w v → Judges declared j w → Judges declared j v
judges_agree declared j n w v a h =
    record {
      judged = judged_agrees (judging_of declared j) j.lawful n w v a h.judged;
      alone = λ p t r e k. (let same : v.region r ≡ w.region r = a.regions r in
          let is : leaf_tree (leaf.Region (v.region r)) ≡ leaf_tree (leaf.Region (w.region r)) = ap (λ x. leaf_tree (leaf.Region x)) same in
          h.alone p t r e (subst (λ x. (judging_of declared j).holds (region_constraint p t x)) is k) ∙ sym is);
    }

module _ (declared : ℕ → List Variance) (z : Bool) (u : ℕ) where
  pub walks_none : (c : Content) (xs : List WalkStep) (ss : List Tree) (gs : List Relating) → IsSound c → Walks declared z u c c xs xs ss ss gs gs
  walks_none c xs ss gs sound =
      record {
        later = grown_refl c;
        continues = Continues-refl c sound;
        made = λ f s k e h. h;
        answered = λ f ks h. h;
        stands = λ f s k ks a e h. h;
        back = λ w h. h;
        complete = λ j w h judged settled goals whole named runs. record {
          extension = record { world = w; agrees = Agrees-refl (length c.slots) w; solves = h; settled = settled; names = λ f k n. k };
          runs = runs;
          goals = goals;
        };
        plain = λ h k. (stays_none c, h, k);
        passes = λ P q h a b k. (h, a, b, k);
      }

  pub walks_then : (c d e : Content) (xs ys zs : List WalkStep) (ss rs qs : List Tree) (gs hs is : List Relating) → IsSound c → IsSound d
      → Walks declared z u c d xs ys ss rs gs hs → Walks declared z u d e ys zs rs qs hs is → Walks declared z u c e xs zs ss qs gs is
  walks_then c d e xs ys zs ss rs qs gs hs is sc sd a b =
      let grown : length c.slots ≤ length d.slots = (let k = a.continues in k.more) in
      record {
        later = grown_trans a.later b.later;
        continues = Continues-trans c d e sc a.continues b.continues;
        made = λ f s k t h. a.made f s (Continues-trans d e f sd b.continues k) t (b.made f s k t h);
        answered = λ f ks h. a.answered f ks (b.answered f ks h);
        stands = λ f s k ks h t r. a.stands f s (Continues-trans d e f sd b.continues k) ks (b.answered f ks h) t (b.stands f s k ks h t r);
        back = λ w h. a.back w (b.back w h);
        complete = λ j w h judged settled goals whole named runs.
            (let J = judging_of declared j in
            let x = a.complete j w h judged settled goals whole named runs in
            let p = x.extension in
            let y = b.complete j p.world p.solves (judges_agree declared j (length c.slots) w p.world p.agrees judged) p.settled x.goals whole named x.runs in
            let q = y.extension in
            record {
              extension = record {
                world = q.world;
                agrees = Agrees-trans (length c.slots) (length d.slots) w p.world q.world grown p.agrees q.agrees;
                solves = q.solves;
                settled = q.settled;
                names = λ f k n. q.names f (p.names f k n) n;
              };
              runs = y.runs;
              goals = y.goals;
            });
        plain = λ h k. (let x = a.plain h k in let y = b.plain x.1 x.2 in (stays_then c d e a.later b.later b.continues x.0 y.0, y.1, y.2));
        passes = λ P q h i j k. (let x = a.passes P q h i j k in b.passes P q x.0 x.1 x.2 x.3);
      }

  -- a part for which a tree was made at once
  pub walk_made : (c d : Content) (v : Variance) (q : Bool) (t r : Tree) (new : List Relating) (xs : List WalkStep) (ss : List Tree) (gs : List Relating)
      → KnowsSteps c xs → KnowsTrees c ss → ArePairsKnown c gs → IsMade declared z u c d v q t r new → Walks declared z u c d (enter v q t ∷ xs) xs ss (r ∷ ss) gs (gs ++ new)
  walk_made c d v q t r new xs ss gs kx ks kg m =
      record {
        later = m.later;
        continues = m.continues;
        made = λ f s k e h. entered (m.made f s k) h;
        answered = λ f ks h. (answered_front f ks gs new h).0;
        stands = λ f s k ks a e h. entered (m.stands f s k ks (answered_front f ks gs new a).1) h;
        back = m.back;
        complete = λ j w h judged settled goals whole named runs.
            (let J = judging_of declared j in
            let x = unentered (IsChoice J u whole) (SettlesOwed J) v q (inst w t) (steps_of (inst w) xs) (map (inst w) ss) whole runs in
            let f = x.fits in
            let y = m.complete j w h judged settled x.made f.settled (f.named term_level named) f.formed f.settles in
            let e = y.extension in
            let one : steps_of (inst e.world) xs ≡ steps_of (inst w) xs = steps_agree c w e.world xs e.agrees kx in
            let two : map (inst e.world) ss ≡ map (inst w) ss = trees_agree c w e.world ss e.agrees ks in
            let three : inst e.world r ≡ x.made = y.is in
            record {
              extension = named_in J c d w (λ g. NamesAll g u x.made) (λ g. NamesAll g u whole) f.named e;
              runs = rw (one, two, three) x.runs;
              goals = settle_joined J j.lawful e.world gs new (settle_agrees J j.lawful c w e.world gs e.agrees kg goals) y.goals;
            });
        plain = λ h k. (let x = m.plain h.0 in let stays = x.0 in (stays, steps_stay c d xs stays.keeps kx h.1, (x.1, trees_stay c d ss stays.keeps ks k)));
        passes = λ P p h a b k. (let x = m.passes P p h a.0 in (x.0, a.1, (x.1, b), pass_joined P gs new k x.2));
      }
