-- Two variables of a content made one: its worlds, universes and what it holds.
use Rattle.nts_unify.proofs.Changes.{some_inj}
use Rattle.std.proofs.Common.{◌≡◌, ◌≢◌, ◌⊎◌, inl, inr, ⊎_elim, ℕ, ◌<◌, ◌≤◌, min, Some, refl, sym, ap, ◌∙◌, arith}
use Rattle.std.proofs.lemmas.Bool.{cases_lt}
use Rattle.nts_model.specs.declared.labels.VariableKind.TheVariants as kind
use Rattle.nts_model.specs.Tables.Contents.{Content, Slot, link, state_of, universe_of, changed, bound_to}
use Rattle.nts_model.specs.Tables.Resolving.{IsSound}
use Rattle.nts_model.specs.Tables.Levels.{NamesAll, term_level}
use Rattle.nts_model.specs.Tables.Worlds.{World, Solves}
use Rattle.nts_model.specs.Tables.Holding.{Continues}
use Rattle.nts_model.proofs.Tables.Slots.{some_slot}
use Rattle.nts_model.proofs.Tables.Under.{same_or_other}
use Rattle.nts_model.proofs.Tables.Binding.{IsLinkable, state_of-set_same}
use Rattle.nts_model.proofs.Tables.Solving.{Lowers, NamesAll-either, universe_of-set, universe_of-lowered_same, universe_of-lowered_other, Solves-lowered, Solves-from_lowered, Solves-link, Solves-from_link, Solves-region_link, Solves-from_region_link}
use Rattle.nts_model.proofs.Tables.Held.{Continues-refl, Continues-trans, Continues-lowered, Continues-link, Continues-region_link}
use Rattle.nts_unify.specs.Joining.{IsOneClass}

-- nothing that worlds see changed
pub record Marked (c d : Content) : Type 0 where
  pub continues : Continues c d
  pub universes : (n : ℕ) → universe_of d n ≡ universe_of c n
  pub forth : (w : World) → Solves c w → Solves d w
  pub back : (w : World) → Solves d w → Solves c w

pub Marked-refl : (c : Content) → IsSound c → Marked c c
Marked-refl c s = record { continues = Continues-refl c s; universes = λ n. refl; forth = λ w h. h; back = λ w h. h }

names_own : (c : Content) (w : World) (n u : ℕ) → Solves c w → universe_of c n ≡ Some u → NamesAll term_level u (w.tree n)
names_own c w n u s e = rw e at (s.nameable.each n)

-- another sub-unification class
pub marked : (c : Content) (n : ℕ) (v : Slot) (b : Lowers c n v) → v.universe ≡ b.old.universe → IsSound c → Marked c (changed c n v)
marked c n v b u s =
    let here : universe_of c n ≡ Some v.universe = some_slot (λ x. x.universe) c n b.old b.was ∙ ap Some (sym u) in
    record {
      continues = Continues-lowered c n v b s;
      universes = λ m. ⊎_elim
          (λ (e : m ≡ n). rw e (universe_of-lowered_same c n v b ∙ sym here))
          (λ (d : m ≡ n → ⊥). universe_of-lowered_other c n v b m d) (same_or_other m n);
      forth = λ w h. Solves-lowered c n v b w h (names_own c w n v.universe h here);
      back = λ w h. (Solves-from_lowered c n v b w h).0;
    }

-- a variable comes down to a universe
pub record ComesDown (c d : Content) (n u : ℕ) : Type 0 where
  pub continues : Continues c d
  pub universe : universe_of d n ≡ Some u
  pub others : (m : ℕ) → (m ≡ n → ⊥) → universe_of d m ≡ universe_of c m
  pub forth : (w : World) → Solves c w → NamesAll term_level u (w.tree n) → Solves d w
  pub back : (w : World) → Solves d w → Solves c w

pub comes_down : (c : Content) (n : ℕ) (v : Slot) → Lowers c n v → IsSound c → ComesDown c (changed c n v) n v.universe
comes_down c n v b s =
    record {
      continues = Continues-lowered c n v b s;
      universe = universe_of-lowered_same c n v b;
      others = λ m d. universe_of-lowered_other c n v b m d;
      forth = λ w h k. Solves-lowered c n v b w h k;
      back = λ w h. (Solves-from_lowered c n v b w h).0;
    }

-- a variable leads to another one
pub record LeadsTo (c d : Content) (n m : ℕ) : Type 0 where
  pub continues : Continues c d
  pub linked : state_of d n ≡ Some (link m)
  pub universes : (k : ℕ) → universe_of d k ≡ universe_of c k
  pub forth : (w : World) → Solves c w → w.tree n ≡ w.tree m → Solves d w
  pub back : (w : World) → Solves d w → Solves c w × (w.tree n ≡ w.tree m)

pub leads_to : (c : Content) (n : ℕ) (v : Slot) (m : ℕ) (b : IsLinkable c n v m) → v.universe ≡ b.binds.old.universe → v.kind ≢ kind.Region → IsSound c → LeadsTo c (bound_to c n v) n m
leads_to c n v m b u other s =
    record {
      continues = Continues-link c n v m b u other s;
      linked = state_of-set_same c n v b.binds ∙ ap Some b.is;
      universes = λ k. universe_of-set c n v b.binds u k;
      forth = λ w h e. Solves-link c n v m b u w h e;
      back = λ w h. Solves-from_link c n v m b u w h;
    }

pub leads_to_region : (c : Content) (n : ℕ) (v : Slot) (m : ℕ) (b : IsLinkable c n v m) → v.universe ≡ b.binds.old.universe → v.kind ≡ kind.Region → IsSound c → LeadsTo c (changed c n v) n m
leads_to_region c n v m b u region s =
    record {
      continues = Continues-region_link c n v m b u region s;
      linked = state_of-set_same c n v b.binds ∙ ap Some b.is;
      universes = λ k. universe_of-set c n v b.binds u k;
      forth = λ w h e. Solves-region_link c n v m b u w h e;
      back = λ w h. Solves-from_region_link c n v m b u w h;
    }

lower_of : (u a b : ℕ) → u ≡ min a b → (u ≡ a) ⊎ (u ≡ b)
lower_of u a b e = ⊎_elim (λ (h : a < b). inl (omega (arith, e))) (λ (h : b ≤ a). inr (omega (arith, e))) (cases_lt a b)

-- all three steps of joining
pub one_class : (b c d e : Content) (low high u x y : ℕ) → IsSound b → IsSound c → IsSound d → Marked b c → ComesDown c d low u → LeadsTo d e high low → (high ≡ low → ⊥) → universe_of b low ≡ Some x → universe_of b high ≡ Some y → u ≡ min x y → IsOneClass b e low high
one_class b c d e low high u x y s s1 s2 m l k apart is_x is_y is_u =
    record {
      continues = Continues-trans b d e s (Continues-trans b c d s m.continues l.continues) k.continues;
      linked = k.linked;
      narrows = record {
        sound = λ w h. (let q = k.back w h in (m.back w (l.back w q.0), sym q.1));
        complete = λ w h q.
            let first = names_own b w low x h is_x in
            let second : NamesAll term_level y (w.tree low) = rw q (names_own b w high y h is_y) in
            let named : NamesAll term_level u (w.tree low) = NamesAll-either term_level x y u (w.tree low) (lower_of u x y is_u) first second in
            k.forth w (l.forth w (m.forth w h) named) (sym q);
        names = λ f w z h q.
            let first : NamesAll f x (w.tree low) = rw is_x at (h.each low) in
            let other : NamesAll f y (w.tree high) = rw is_y at (h.each high) in
            let named : NamesAll f u (w.tree low) = NamesAll-either f x y u (w.tree low) (lower_of u x y is_u) first (rw q other) in
            record {
              each = λ n. rw (k.universes n)
                  (⊎_elim
                  (λ (p : n ≡ low). rw (p, l.universe) named)
                  (λ (p : n ≡ low → ⊥). rw (l.others n p, m.universes n) (h.each n)) (same_or_other n low));
            };
      };
      root = λ i j p q.
          let first : x ≡ i = some_inj x i (sym is_x ∙ p) in
          let second : y ≡ j = some_inj y j (sym is_y ∙ q) in
          k.universes low ∙ l.universe ∙ ap Some (is_u ∙ λ z. min (first z) (second z));
      universes = λ n q. k.universes n ∙ l.others n q ∙ m.universes n;
    }
