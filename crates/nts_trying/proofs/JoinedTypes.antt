-- Two type variables that were made one sub-unification class: what a table says to worlds is the same, and their goal is left.
use Rattle.std.proofs.Common.{◌≡◌, inr, ⊎_elim, ℕ, ◌<◌, min, max, true, List, [], ◌∷◌, length, Option, Some, None, refl, sym, ap, ◌∙◌, subst, arith}
use Rattle.std.specs.Prelude.{map}
use Rattle.nts_model.specs.declared.labels.Variance.{Variance}
use Rattle.nts_model.specs.declared.labels.Variance.TheVariants as variance
use Rattle.nts_model.specs.declared.labels.VariableKind.{VariableKind}
use Rattle.nts_model.specs.declared.labels.VariableKind.TheVariants as kind
use Rattle.nts_model.specs.Terms.Trees.{Tree, empty, more, node, variable_of, variable_tree}
use Rattle.nts_model.specs.Tables.Contents.{Content, SlotState, unset, link, known, state_of, kind_at}
use Rattle.nts_model.specs.Tables.Resolving.{root_of, IsSound, Knows}
use Rattle.nts_model.specs.Tables.Passing.{BringsNoLabels}
use Rattle.nts_model.specs.Derivations.Related.{subtype_goal}
use Rattle.nts_model.specs.Derivations.Rules.{relating}
use Rattle.nts_model.proofs.Tables.Bringing.{brings-same}
use Rattle.nts_model.proofs.Tables.Instances.{Agrees-refl}
use Rattle.nts_model.proofs.Tables.Roots.{kind_at-root_of}
use Rattle.nts_model.proofs.Tables.Solving.{Lowers}
use Rattle.nts_variance_model.proofs.Variances.AnsweredGoals.{answered_relates}
use Rattle.nts_theory.specs.Subtyping.{IsSubtyping, as_subtype, LeavesGoals, LeavesPremises}
use Rattle.nts_unify.specs.declared.contents.Variable.{Variable}
use Rattle.nts_unify.specs.Entries.{Entries}
use Rattle.nts_unify.specs.Reading.{slot_of, recorded_of, content_of, IsLawful}
use Rattle.nts_unify.specs.Roots.{SubLinked, SubRootsJoin}
use Rattle.nts_unify.proofs.Changes.{slot_at, content_of-with_variable}
use Rattle.nts_unify.proofs.JoinLemmas.{sub_join}
use Rattle.nts_unify.proofs.Keeping.{closed_same}
use Rattle.nts_unify.proofs.Leading.{kind_within}
use Rattle.nts_unify.proofs.Merging.{Marked, Marked-refl, marked}
use Rattle.nts_table.specs.Classes.{value_or_root, shallow_at, looked_up, shallowly_resolved}
use Rattle.nts_table.specs.Frames.{ChangesVariables}
use Rattle.nts_table.specs.Tables.{Table, IsTable}
use Rattle.nts_store.proofs.Growing.{Extends-refl}
use Rattle.nts_meaning.specs.Evaluation.{Goes}
use Rattle.nts_meaning.proofs.Evaluating.{goes}

module _ (ts : List Tree) (e f : Entries) (n m : ℕ) (h : IsLawful ts e) (j : SubRootsJoin e f n m) where
  abbrev c : Content
  c = content_of ts e

  abbrev d : Content
  d = content_of ts f

  -- worlds, universes and what the table holds are as before
  pub join_marked : Marked c d
  join_marked = ⊎_elim
      (λ (p : (j.first ≡ j.second) × (f ≡ e)). rw p.1 (Marked-refl (content_of ts e) h.sound))
      (λ (p : SubLinked e f j.first j.second).
      let k = max j.first j.second in
      let v = p.variable in
      let w : Variable = record v { sub_link = Some (min j.first j.second) } in
      let lowers : Lowers (content_of ts e) k (slot_of ts w) = record { old = slot_of ts v; was = slot_at ts e k v p.at; same_kind = refl; same_state = refl; lower = omega arith } in
      rw (p.entries, content_of-with_variable ts e k w) (marked (content_of ts e) k (slot_of ts w) lowers refl h.sound)) j.joined

  pub join_constraints : d.constraints ≡ c.constraints
  join_constraints = ⊎_elim
      (λ (p : (j.first ≡ j.second) × (f ≡ e)). ap (λ (z : Entries). map (recorded_of ts) z.constraints) p.1)
      (λ (p : SubLinked e f j.first j.second). ap (λ (z : Entries). map (recorded_of ts) z.constraints) p.entries) j.joined

  pub join_brings : BringsNoLabels c d
  join_brings = (let r = sub_join ts e f n m h j in let s = r.same in brings-same c d (λ i t q. sym (s.states i) ∙ q) join_constraints)

  -- the goal that says so of the two is left
  module _ (declared : ℕ → List Variance) (a b : Tree) where
    goal_left : LeavesGoals declared c d (as_subtype a b) (as_subtype a b)
    goal_left =
        let k = join_marked in
        let on = k.continues in
        let r = sub_join ts e f n m h j in
        let s = r.same in
        record {
          relates = record { related = λ g sound later ks answered none. (answered_relates declared g ks (record { variance = variance.Covariant; left = a; right = b }) answered.0, tt) };
          leaves = record {
            more = on.more;
            back = k.back;
            complete = λ q w solves judged settled all. (
              record {
                world = w;
                agrees = Agrees-refl (length c.slots) w;
                solves = k.forth w solves;
                settled = record { each = λ i l. settled.each i (omega (arith, l, s.more)) };
                names = λ g names u. record { each = λ i. rw (k.universes i) (names.each i) };
              },
              tt,
              all,
            );
          };
        }

    pub types_joined : (g : Tree) → IsSubtyping g a b → (z : Tree) → LeavesPremises declared c d z g (relating z (subtype_goal true variance.Covariant a b) ∷ [])
    types_joined g is z =
        record {
          left = a;
          right = b;
          is = is;
          pairs = as_subtype a b;
          related = goal_left;
          goals = subtype_goal true variance.Covariant a b ∷ [];
          of_pairs = (inr (true, refl), tt);
          premises = refl;
        }

-- the table went on
pub join_goes : (ts : List Tree) (t u : Table) (n m : ℕ) → IsTable ts t → IsTable ts u → ChangesVariables t u → SubRootsJoin t.entries u.entries n m → Goes ts ts t u
join_goes ts t u n m w z k j =
    let y = join_marked ts t.entries u.entries n m w.now j in
    goes w (Extends-refl ts) z y.continues k.saved k.mode k.hidden (λ s. closed_same (join_constraints ts t.entries u.entries n m w.now j) s)

-- what stands for a type variable is one of the table's
looked_known : (c : Content) (t : Tree) → IsSound c → Knows c t → Knows c (looked_up c t)
looked_known c empty s h = tt
looked_known c (more a b) s h = h
looked_known c (node l x) s h = by_variable (variable_of l) refl
  where
    own : (k : VariableKind) (n : ℕ) → kind_at c n ≡ Some k → Knows c (variable_tree k (root_of c n))
    own k n has = ((kind_at-root_of c n s ∙ has, tt, refl), tt, tt)

    by_state : (k : VariableKind) (n : ℕ) → kind_at c n ≡ Some k → (o : Option SlotState) → state_of c (root_of c n) ≡ o → Knows c (value_or_root k (root_of c n) o)
    by_state k n has None e = own k n has
    by_state k n has (Some unset) e = own k n has
    by_state k n has (Some (link m)) e = own k n has
    by_state k n has (Some (known w)) e = s.known_trees (root_of c n) w e

    by_variable : (o : Option (VariableKind × ℕ)) → variable_of l ≡ o → Knows c (shallow_at c (variable_of l) (node l x))
    by_variable None e = rw e h
    by_variable (Some v) e = rw e (by_state v.0 v.1 (rw e at h.0.0) (state_of c (root_of c v.1)) refl)

pub variable_within : (ts : List Tree) (t : Table) (x : Tree) (n : ℕ) → IsTable ts t → Knows (content_of ts t.entries) x → shallowly_resolved (content_of ts t.entries) x ≡ variable_tree kind.Ty n → n < length t.entries.variables
variable_within ts t x n w h e =
    let c = content_of ts t.entries in
    let known = looked_known c (looked_up c x) w.now.sound (looked_known c x w.now.sound h) in
    let own : Knows c (variable_tree kind.Ty n) = subst (Knows c) e known in
    kind_within ts t.entries n kind.Ty own.0.0
