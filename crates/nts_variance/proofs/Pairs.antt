-- What relating whole pairs leaves: steps, one after another and beside other pairs, refusals, and walks whose tree was made one
-- with a variable.
use Rattle.std.proofs.Common.{◌≡◌, inl, ℕ, ◌<◌, ◌≤◌, Bool, true, false, List, [], ◌∷◌, ◌++◌, length, Option, Some, refl, sym, ◌∙◌, arith, subst}
use Rattle.nts_model.specs.declared.labels.Variance.{Variance}
use Rattle.nts_model.specs.declared.labels.Variance.TheVariants as variance
use Rattle.nts_model.specs.declared.labels.VariableKind.{VariableKind}
use Rattle.nts_model.specs.declared.labels.Label.{Label}
use Rattle.nts_model.specs.Terms.Trees.{Tree, empty, variable_tree}
use Rattle.nts_model.specs.Tables.Contents.{Content, universe_of, kind_at}
use Rattle.nts_model.specs.Tables.Resolving.{IsSound}
use Rattle.nts_model.specs.Tables.Levels.{NamesAll, IfNamesAll, term_level}
use Rattle.nts_model.specs.Tables.Worlds.{World, inst, IsNameable, Solves}
use Rattle.nts_model.specs.Tables.Equations.{AreRelated, AreUnrelated}
use Rattle.nts_model.specs.Tables.Tying.{TiesNew}
use Rattle.nts_model.specs.Derivations.Related.{region_constraint}
use Rattle.nts_variance_model.specs.Variances.RelatingBy.{IsTrueIn}
use Rattle.nts_variance_model.specs.Variances.Judging.{Judging, IsSettled, Settles, IsLawfulJudging, opposite}
use Rattle.nts_variance_model.specs.Variances.Relations.{Relating, SettlesIn, AllSettleIn, ArePairsKnown, IsSettledWorld, SettledExtension, RefusesBy}
use Rattle.nts_variance_model.specs.Variances.Leaving.{Judge, judging_of, LeavesBy, Judges, Leaves, Refuses}
use Rattle.nts_model.proofs.Tables.Slots.{field_below}
use Rattle.nts_model.proofs.Tables.Instances.{Agrees-refl, Agrees-trans}
use Rattle.nts_variance_model.proofs.Variances.Alongside.{opposite_twice}
use Rattle.nts_variance_model.proofs.Variances.SettleRows.{settles_turned}
use Rattle.nts_variance_model.proofs.Variances.Generalizing.{settle_agrees, settle_joined, settle_parted}
use Rattle.nts_variance_model.proofs.Variances.Tied.{settled_tied}
use Rattle.nts_variance.specs.Steps.{WalkStep, enter, StepsLead, ended, entered, built, owed}
use Rattle.nts_variance.specs.Walking.{IsChoice, sides, Walks}
use Rattle.nts_variance.proofs.Turns.{judges_agree}

trivially : (w : World) (v : Variance) (a : Tree) → IsTrueIn w (region_constraint v a a)
trivially w variance.Invariant a = refl
trivially w variance.Covariant a = inl refl
trivially w variance.Contravariant a = inl refl

nowhere : World
nowhere = record { tree = λ n. empty; region = λ r. r; outlives = λ a b. false }

-- a judging by which no alias stands for itself or normalizes
some_judge : (declared : ℕ → List Variance) → Judge declared
some_judge declared =
    record {
      lists = record { stands = []; normal = [] };
      world = nowhere;
      lawful = record {
        one = λ a b h. h;
        trivial = trivially nowhere;
        alone = λ a v h. absurd h;
        kind = λ a v h. absurd h;
      };
    }

module _ (declared : ℕ → List Variance) where
  -- what is left by each judging that is true in the world
  pub leaves_by : (c d : Content) (ps qs gs : List Relating) → ((j : Judge declared) → LeavesBy (judging_of declared j) c d ps qs gs) → Leaves declared c d ps qs gs
  leaves_by c d ps qs gs h =
      let own = h (some_judge declared) in
      record {
        more = own.more;
        back = own.back;
        complete = λ j w s judges settled p. (let x = h j in x.complete w s judges.judged settled p);
      }

  pub refuses_by : (c : Content) (ps : List Relating) → ((j : Judge declared) → RefusesBy (judging_of declared j) c ps) → Refuses declared c ps
  refuses_by c ps h = record { none = λ j w s judges settled p. (let x = h j in x.none w s judges.judged settled p) }

  -- nothing done
  pub Leaves-none : (c : Content) (ps : List Relating) → Leaves declared c c ps ps []
  Leaves-none c ps =
      record {
        more = omega arith;
        back = λ w s. s;
        complete = λ j w s judges settled h. (record { world = w; agrees = Agrees-refl (length c.slots) w; solves = s; settled = settled; names = λ f q n. q }, h, tt);
      }

  -- two steps: the goals of the first are goals still
  pub Leaves-then : (c d f : Content) (ps qs rs gs hs : List Relating) → ArePairsKnown d gs → Leaves declared c d ps qs gs → Leaves declared d f qs rs hs → Leaves declared c f ps rs (gs ++ hs)
  Leaves-then c d f ps qs rs gs hs known a b =
      record {
        more = (let p = a.more in let q = b.more in omega (arith, p, q));
        back = λ w s. a.back w (b.back w s);
        complete = λ j w s judges settled h.
            (let J = judging_of declared j in
            let x = a.complete j w s judges settled h in
            let e = x.0 in
            let y = b.complete j e.world e.solves (judges_agree declared j (length c.slots) w e.world e.agrees judges) e.settled x.1 in
            let z = y.0 in (
              record { world = z.world; agrees = Agrees-trans (length c.slots) (length d.slots) w e.world z.world a.more e.agrees z.agrees; solves = z.solves; settled = z.settled; names = λ f q n. z.names f (e.names f q tt) tt },
              y.1,
              settle_joined J j.lawful z.world gs hs (settle_agrees J j.lawful d e.world z.world gs z.agrees known x.2) y.2,
            ));
      }

  -- a step on the first pairs beside the others
  pub Leaves-beside : (c d : Content) (ps qs rest gs : List Relating) → ArePairsKnown c rest → Leaves declared c d ps qs gs → Leaves declared c d (ps ++ rest) (qs ++ rest) gs
  Leaves-beside c d ps qs rest gs known a =
      record {
        more = a.more;
        back = a.back;
        complete = λ j w s judges settled h.
            (let J = judging_of declared j in
            let parts = settle_parted J j.lawful w ps rest h in
            let x = a.complete j w s judges settled parts.0 in
            let e = x.0 in
            (e, settle_joined J j.lawful e.world qs rest x.1 (settle_agrees J j.lawful c w e.world rest e.agrees known parts.1), x.2));
      }

  -- a pair left out
  pub Leaves-fewer : (c : Content) (p : Relating) (ps : List Relating) → Leaves declared c c (p ∷ ps) ps []
  Leaves-fewer c p ps =
      record {
        more = omega arith;
        back = λ w s. s;
        complete = λ j w s judges settled h. (record { world = w; agrees = Agrees-refl (length c.slots) w; solves = s; settled = settled; names = λ f q n. q }, h.1, tt);
      }

  -- a refusal after steps, and of one of the pairs
  pub Refuses-then : (c d : Content) (ps qs gs : List Relating) → Leaves declared c d ps qs gs → Refuses declared d qs → Refuses declared c ps
  Refuses-then c d ps qs gs a r =
      record {
        none = λ j w s judges settled h.
            (let x = a.complete j w s judges settled h in
            let e = x.0 in
            r.none j e.world e.solves (judges_agree declared j (length c.slots) w e.world e.agrees judges) e.settled x.1);
      }

  pub Refuses-beside : (c : Content) (ps rest : List Relating) → Refuses declared c ps → Refuses declared c (ps ++ rest)
  Refuses-beside c ps rest r =
      record { none = λ j w s judges settled h. (let parts = settle_parted (judging_of declared j) j.lawful w ps rest h in r.none j w s judges settled parts.0) }

-- no steps lead to the one tree that was made
pub ended_at : {P : Variance → Bool → Tree → Tree → Type 0} {Q : Variance → Tree → Tree → Type 0} {xs : List WalkStep} {ss : List Tree} {e : Tree} (r : Tree) → xs ≡ [] → ss ≡ r ∷ [] → StepsLead P Q xs ss e → r ≡ e
ended_at r i k ended = cc
ended_at r i k (entered p h) = cc
ended_at r i k (built l h) = cc
ended_at r i k (owed p h) = cc

pub sides_settle : (side : Bool) (J : Judging) → IsLawfulJudging J → (w : World) (v : Variance) (r t : Tree) → SettlesIn J w (sides side v r t) → Settles J v (inst w r) (inst w t)
sides_settle false J law w v r t h = h
sides_settle true J law w v r t h = subst (λ p. Settles J p (inst w r) (inst w t)) (opposite_twice v) (settles_turned J law (opposite v) (inst w t) (inst w r) h)

-- a settled extension of the table, in which the tree that was made for a part is a variable's
record Reached (J : Judging) (c d : Content) (w : World) (x : ℕ) (k : VariableKind) (r : Tree) (new : List Relating) : Type 0 where
  pub extension : SettledExtension J c d w (λ f. Unit {0})
  pub one : inst extension.world (variable_tree k x) ≡ inst extension.world r
  pub goals : AllSettleIn J extension.world new

module _ (declared : ℕ → List Variance) (z : Bool) (u : ℕ) where
  reached : (c d : Content) (x : ℕ) (k : VariableKind) (v : Variance) (t r : Tree) (new : List Relating) → Walks declared z u c d (enter v false t ∷ []) [] [] (r ∷ []) [] new → universe_of c x ≡ Some u → kind_at c x ≡ Some k
      → (j : Judge declared) (w : World) → Solves c w → Judges declared j w → IsSettledWorld (judging_of declared j) c w → SettlesIn (judging_of declared j) w (sides z v (variable_tree k x) t) → Reached (judging_of declared j) c d w x k r new
  reached c d x k v t r new walk universe kind j w solves judges settled h =
      let J = judging_of declared j in
      let whole = w.tree x in
      let below : x < length c.slots = field_below (λ s. s.kind) c x k kind in
      let value = solves.fitting.each x k kind in
      let named : (f : Label → Option ℕ) → IsNameable f c w → NamesAll f u whole = λ f n. subst (λ o. IfNamesAll f o whole) universe (n.each x) in
      let choice : IsChoice J u whole v false (inst w t) whole = record { settled = settled.each x below; formed = value.formed; named = λ f n. n; settles = sides_settle z J j.lawful w v (variable_tree k x) t h } in
      let on = walk.complete j w solves judges settled tt whole (named term_level solves.nameable) (entered choice ended) in
      let e = on.extension in
      record {
        extension = record { world = e.world; agrees = e.agrees; solves = e.solves; settled = e.settled; names = λ f n y. e.names f n (named f n) };
        one = e.agrees.trees x below ∙ sym (ended_at (inst e.world r) refl refl on.runs);
        goals = on.goals;
      }

  -- a variable that was made one with the tree that stands for a term
  pub walk_leaves : (c d e : Content) (x : ℕ) (k : VariableKind) (v : Variance) (t r : Tree) (new : List Relating) → Walks declared z u c d (enter v false t ∷ []) [] [] (r ∷ []) [] new → universe_of c x ≡ Some u → kind_at c x ≡ Some k
      → IsSound e → AreRelated d e (variable_tree k x) r → TiesNew d e → ArePairsKnown d new → Leaves declared c e (sides z v (variable_tree k x) t ∷ []) [] new
  walk_leaves c d e x k v t r new walk universe kind sound made ties known =
      let first : length c.slots ≤ length d.slots = walk.later.more in
      let second : length d.slots ≤ length e.slots = made.continues.more in
      record {
        more = omega (arith, first, second);
        back = λ w s. walk.back w (made.sound w s).0;
        complete = λ j w s judges settled h.
            (let J = judging_of declared j in
            let a = reached c d x k v t r new walk universe kind j w s judges settled h.0 in
            let p = a.extension in
            let q = made.complete p.world p.solves a.one in
            let kept : IsSettledWorld J d q.world = record { each = λ n l. subst (IsSettled J) (sym (q.agrees.trees n l)) (p.settled.each n l) } in (
              record {
                world = q.world;
                agrees = Agrees-trans (length c.slots) (length d.slots) w p.world q.world first p.agrees q.agrees;
                solves = q.solves;
                settled = settled_tied J j.lawful d e q.world sound q.solves ties kept;
                names = λ f n y. q.names f (p.names f n tt) tt;
              },
              tt,
              settle_agrees J j.lawful d p.world q.world new q.agrees known a.goals,
            ));
      }

  -- .. and one that no solution makes one with it
  pub walk_refuses : (c d : Content) (x : ℕ) (k : VariableKind) (v : Variance) (t r : Tree) (new : List Relating) → Walks declared z u c d (enter v false t ∷ []) [] [] (r ∷ []) [] new → universe_of c x ≡ Some u → kind_at c x ≡ Some k
      → AreUnrelated d (variable_tree k x) r → Refuses declared c (sides z v (variable_tree k x) t ∷ [])
  walk_refuses c d x k v t r new walk universe kind apart =
      record {
        none = λ j w s judges settled h.
            (let a = reached c d x k v t r new walk universe kind j w s judges settled h.0 in
            let p = a.extension in
            apart.none p.world p.solves a.one);
      }
