-- A response applied step by step: the solutions are those that grant it.
use Rattle.std.proofs.Common.{◌≡◌, inl, inr, ℕ, zero, suc, ◌+◌, ◌≤◌, List, [], ◌∷◌, map, length, get_or, Option, Some, refl, sym, ap, ◌∙◌, arith, subst}
use Rattle.std.proofs.lemmas.List.{length-append}
use Rattle.nts_model.specs.declared.labels.Sort.{Sort}
use Rattle.nts_model.specs.declared.labels.Sort.TheVariants as sort
use Rattle.nts_model.specs.declared.labels.VariableKind.{VariableKind}
use Rattle.nts_model.specs.declared.labels.VariableKind.TheVariants as kind
use Rattle.nts_model.specs.declared.labels.Label.{Label}
use Rattle.nts_model.specs.Terms.Trees.{Tree, empty}
use Rattle.nts_model.specs.Tables.Contents.{in_universe, Content, Slot, with_slot, kind_at, universe_of}
use Rattle.nts_model.specs.Tables.Resolving.{Knows, IsSound}
use Rattle.nts_model.specs.Tables.Levels.{NamesAll, term_level}
use Rattle.nts_model.specs.Tables.Worlds.{World, inst, IsValue, IsNameable, Solves, Agrees, with_tree}
use Rattle.nts_model.specs.Tables.Holding.{Continues}
use Rattle.nts_model.specs.Terms.Fitting.{Fits}
use Rattle.nts_model.specs.Derivations.Proving.{HoldsTerms}
use Rattle.nts_model.specs.Canonical.Inputs.{PositionKind, type_variable, integer_variable, float_variable, const_variable, region_variable, placeholder}
use Rattle.nts_model.specs.Answers.Responses.{bound_of, placeholder_at, IsImageOf, AreImagesOf, IsNamedBy, AreNamedBy, read_in, AreEqualIn, IsTermFor, StandsFor, StandForAll}
use Rattle.nts_model.specs.Answers.Applying.{IsProperContent, IsNew, IsOriginalAt, ChoosesVariable, Chooses, ChoosesAll, AreKnownTrees}
use Rattle.nts_model.proofs.Tables.Slots.{field-with_slot_new, KeepsKinds, KeepsKinds-refl, KeepsKinds-trans, KeepsKinds-with_slot, Knows-kept}
use Rattle.nts_model.proofs.Tables.Instances.{inst-agrees, Agrees-refl, Agrees-trans, Agrees-with_tree, tree-with_tree}
use Rattle.nts_model.proofs.Tables.Fitting.{IsValue-inst}
use Rattle.nts_model.proofs.Tables.Held.{Continues-refl, Continues-trans, Continues-with_slot}
use Rattle.nts_model.proofs.Terms.Composing.{Fits-instance}
use Rattle.nts_model.proofs.Tables.ResolvedTerms.{Fits-deeply_resolved}
use Rattle.nts_model.proofs.Tables.TableInstances.{reading_of, instance_of-reading}
use Rattle.nts_model.proofs.Tables.Guessing.{names-inst}
use Rattle.nts_model.proofs.Tables.Solving.{Solves-from_with_slot, Solves-with_slot, universe_of-with_slot_new, IsNameable-with_slot, IsNameable-agrees}

-- one new variable, seen from the table afterwards
pub new_back : (d e : Content) (v : VariableKind) (u : ℕ) (t : Tree) (w : World) → IsNew d e v u t → Solves e w → Solves d w
new_back d e v u t w n s = Solves-from_with_slot d n.slot n.free w (subst (λ z. Solves z w) n.entries s)

pub new_value : (d e : Content) (v : VariableKind) (u : ℕ) (t : Tree) (w : World) → IsNew d e v u t → Solves e w → IsValue v (inst w t)
new_value d e v u t w n s =
    let there : kind_at e (length d.slots) ≡ Some v = ap (λ z. kind_at z (length d.slots)) n.entries ∙ field-with_slot_new (λ x. x.kind) d n.slot ∙ ap Some n.of_kind in
    let tree : inst w t ≡ w.tree (length d.slots) = ap (inst w) n.tree in
    subst (IsValue v) (sym tree) (s.fitting.each (length d.slots) v there)

pub new_named : (f : Label → Option ℕ) (d e : Content) (v : VariableKind) (u : ℕ) (t : Tree) (w : World) → IsNew d e v u t → IsNameable f e w → NamesAll f u (inst w t)
new_named f d e v u t w n s =
    let there : universe_of e (length d.slots) ≡ Some u = ap (λ z. universe_of z (length d.slots)) n.entries ∙ universe_of-with_slot_new d n.slot n.free ∙ ap Some n.universe in
    let tree : inst w t ≡ w.tree (length d.slots) = ap (inst w) n.tree in
    subst (NamesAll f u) (sym tree) (rw there at (s.each (length d.slots)))

-- .. and from the table before
pub record Chosen (c d e : Content) (p : ℕ) (k : PositionKind) (v : World) (x t : Tree) : Type 0 where
  pub world : World
  pub agrees : Agrees (length d.slots) v world
  pub solves : Solves e world
  pub knows : Knows e t
  pub longer : length d.slots ≤ length e.slots
  pub proper : IsProperContent e
  pub image : inst world t ≡ x
  pub names : (f : Label → Option ℕ) → IsNameable f d v → IsNamedBy f p k x → IsNameable f e world

slots_longer : (d : Content) (n : Slot) → length (with_slot d n).slots ≡ length d.slots + 1
slots_longer d n = length-append d.slots (n ∷ [])

pub new_knows : (d e : Content) (u : ℕ) (j : VariableKind) (t : Tree) → IsNew d e j u t → Knows e t
new_knows d e u j t n =
    let there : kind_at e (length d.slots) ≡ Some j = ap (λ z. kind_at z (length d.slots)) n.entries ∙ field-with_slot_new (λ y. y.kind) d n.slot ∙ ap Some n.of_kind in
    rw n.tree ((there, tt, refl), tt, tt)

pub new_forth : (c d e : Content) (p : ℕ) (k : PositionKind) (j : VariableKind) (t : Tree) (v : World) (x : Tree)
    → ((f : Label → Option ℕ) → IsNamedBy f p k x → NamesAll f (bound_of p k) x)
    → IsNew d e j (bound_of p k) t → IsProperContent d → Solves d v → IsValue j x → NamesAll term_level (bound_of p k) x → Chosen c d e p k v x t
new_forth c d e p k j t v x by n proper s value named =
    let n' = n.slot in
    let more : length e.slots ≡ length d.slots + 1 = ap (λ z. length z.slots) n.entries ∙ slots_longer d n' in
    let w = with_tree v (length d.slots) x in
    let same : Agrees (length d.slots) v w = Agrees-with_tree (length d.slots) (length d.slots) v x (omega arith) in
    let solved : Solves (with_slot d n') w = Solves-with_slot d n' n.free proper.sound proper.sides v x s (rw n.universe named) (rw n.of_kind value) in
    record {
      world = w;
      agrees = same;
      solves = subst (λ z. Solves z w) (sym n.entries) solved;
      knows = new_knows d e (bound_of p k) j t n;
      longer = omega (arith, more);
      proper = n.proper;
      image = ap (inst w) n.tree ∙ tree-with_tree v (length d.slots) x;
      names = λ f h q.
          subst (λ z. IsNameable f z w) (sym n.entries)
          (IsNameable-with_slot d n' n.free f w (IsNameable-agrees f d v w same h) (rw (tree-with_tree v (length d.slots) x, n.universe) (by f q)));
    }

module _ (c : Content) (values os : List Tree) where
  -- seen from the table afterwards
  pub record Seen (d : Content) (k : PositionKind) (t : Tree) (w : World) : Type 0 where
    pub solves : Solves d w
    pub image : IsImageOf w c.universe os k (inst w t)
    pub named : IsNamedBy term_level c.universe k (inst w t)

  variable_seen : (b : ℕ) (v : VariableKind) (k : PositionKind) (t : Tree) (d e : Content) (w : World)
      → (IsValue v (inst w t) → IsImageOf w c.universe os k (inst w t)) → (NamesAll term_level (bound_of c.universe k) (inst w t) → IsNamedBy term_level c.universe k (inst w t))
      → (Solves d w → Solves c w) → ChoosesVariable c values os b k v t d e → Solves e w → Seen d k t w
  variable_seen b v k t d e w f g back (inl n) s =
      record {
        solves = new_back d e v (bound_of c.universe k) t w n s;
        image = f (new_value d e v (bound_of c.universe k) t w n s);
        named = g (new_named term_level d e v (bound_of c.universe k) t w n s.nameable);
      }
  variable_seen b v k t d e w f g back (inr (q, same)) s =
      let here : Solves d w = subst (λ z. Solves z w) same s in
      let first : Solves c w = back here in
      record { solves = here; image = f (IsValue-inst c w v t first.fitting q.knows q.value); named = g (names-inst c w (bound_of c.universe k) t first q.knows q.named) }

  pub seen : (b : ℕ) (k : PositionKind) (t : Tree) (d e : Content) (w : World) → (Solves d w → Solves c w) → Chooses c values os b k t d e → Solves e w → Seen d k t w
  seen b (type_variable u r) t d e w back h s = variable_seen b kind.Ty (type_variable u r) t d e w (λ x. x) (λ x. x) back h s
  seen b integer_variable t d e w back h s = variable_seen b kind.Int integer_variable t d e w (λ x. x) (λ x. x) back h s
  seen b float_variable t d e w back h s = variable_seen b kind.Float float_variable t d e w (λ x. x) (λ x. x) back h s
  seen b (const_variable u) t d e w back h s = variable_seen b kind.Const (const_variable u) t d e w (λ x. x) (λ x. x) back h s
  seen b (region_variable u) t d e w back h s = variable_seen b kind.Region (region_variable u) t d e w (λ x. x) (λ x. x) back h s
  seen b (placeholder o u n) t d e w back (p, has, same) s = record { solves = subst (λ z. Solves z w) same s; image = ap (inst w) p; named = tt }

  variable_back : (b : ℕ) (v : VariableKind) (k : PositionKind) (t : Tree) (d e : Content) (w : World) → ChoosesVariable c values os b k v t d e → Solves e w → Solves d w
  variable_back b v k t d e w (inl n) s = new_back d e v (bound_of c.universe k) t w n s
  variable_back b v k t d e w (inr (q, same)) s = subst (λ z. Solves z w) same s

  only_back : (b : ℕ) (k : PositionKind) (t : Tree) (d e : Content) (w : World) → Chooses c values os b k t d e → Solves e w → Solves d w
  only_back b (type_variable u r) t d e w h s = variable_back b kind.Ty (type_variable u r) t d e w h s
  only_back b integer_variable t d e w h s = variable_back b kind.Int integer_variable t d e w h s
  only_back b float_variable t d e w h s = variable_back b kind.Float float_variable t d e w h s
  only_back b (const_variable u) t d e w h s = variable_back b kind.Const (const_variable u) t d e w h s
  only_back b (region_variable u) t d e w h s = variable_back b kind.Region (region_variable u) t d e w h s
  only_back b (placeholder o u n) t d e w (p, has, same) s = subst (λ z. Solves z w) same s

  pub record AllSeen (d : Content) (ks : List PositionKind) (ts : List Tree) (w : World) : Type 0 where
    pub solves : Solves d w
    pub images : AreImagesOf w c.universe os ks (map (inst w) ts)
    pub named : AreNamedBy term_level c.universe ks (map (inst w) ts)

  -- whatever was chosen, a solution makes it what the kinds say
  pub all_seen : (b : ℕ) (ks : List PositionKind) (ts : List Tree) (d f : Content) (w : World) → (Solves d w → Solves c w) → ChoosesAll c values os b ks ts d f → Solves f w → AllSeen d ks ts w
  all_seen b [] [] d f w back h s = record { solves = subst (λ z. Solves z w) h s; images = tt; named = tt }
  all_seen b [] (t ∷ ts) d f w back h s = absurd h
  all_seen b (k ∷ ks) [] d f w back h s = absurd h
  all_seen b (k ∷ ks) (t ∷ ts) d f w back (e, one, rest) s =
      let before : Solves e w → Solves d w = λ z. only_back b k t d e w one z in
      let later = all_seen (suc b) ks ts e f w (λ z. back (before z)) rest s in
      let here = seen b k t d e w back one later.solves in
      record { solves = here.solves; images = (here.image, later.images); named = (here.named, later.named) }

  -- what an original is that was guessed: in a world that equates it with its value, the image of the position
  pub one_point : (vs ts zs : List Tree) (w : World) (b : ℕ) (t : Tree) → AreEqualIn w vs ts zs → IsOriginalAt ts zs b t → inst w t ≡ get_or vs b empty
  one_point vs [] [] w b t h i = absurd i
  one_point vs [] (z ∷ zs) w b t h i = absurd i
  one_point vs (v ∷ ts) [] w b t h i = absurd i
  one_point vs (v ∷ ts) (z ∷ zs) w b t h (inl (o, is, same)) = ap (inst w) same ∙ sym h.0 ∙ ap (read_in w vs) is
  one_point vs (v ∷ ts) (z ∷ zs) w b t h (inr i) = one_point vs ts zs w b t h.1 i

  -- a world that solves the table at first, so far
  pub record SoFar (d : Content) (w v : World) : Type 0 where
    pub proper : IsProperContent d
    pub solves : Solves d v
    pub agrees : Agrees (length c.slots) w v
    pub longer : length c.slots ≤ length d.slots
    pub keeps : KeepsKinds c d

  -- a term of the table at first, where it has the universes of the table now
  kept : (d : Content) (p : ℕ) (k : PositionKind) (w v : World) (x t : Tree) → SoFar d w v → Knows (in_universe c d.universe) t → inst w t ≡ x → Chosen c d d p k v x t
  kept d p k w v x t so i e =
      record {
        world = v;
        agrees = Agrees-refl (length d.slots) v;
        solves = so.solves;
        knows = Knows-kept (in_universe c d.universe) d t (record { grows = omega arith; kinds = (let a = so.keeps in a.kinds) }) i;
        longer = omega arith;
        proper = so.proper;
        image = inst-agrees (in_universe c d.universe) w v t so.agrees i ∙ e;
        names = λ f h q. h;
      }

  variable_chosen : (b : ℕ) (j : VariableKind) (k : PositionKind) (t x : Tree) (d e : Content) (w v : World) → ((f : Label → Option ℕ) → IsNamedBy f c.universe k x → NamesAll f (bound_of c.universe k) x)
      → ((z : Tree) → IsOriginalAt values os b z → inst w z ≡ x) → SoFar d w v → ChoosesVariable c values os b k j t d e → IsValue j x → IsNamedBy term_level c.universe k x → Chosen c d e c.universe k v x t
  variable_chosen b j k t x d e w v by point so (inl n) value named = new_forth c d e c.universe k j t v x by n so.proper so.solves value (by term_level named)
  variable_chosen b j k t x d e w v by point so (inr (g, same)) value named =
      subst (λ z. Chosen c d z c.universe k v x t) (sym same) (kept d c.universe k w v x t so (Knows-kept c (in_universe c d.universe) t (record { grows = (let a = so.keeps in a.grows); kinds = λ n k q. q }) g.knows) (point t g.original))

  placeholder_known : (m : ℕ) (zs : List Tree) (o : Sort) (u n : ℕ) → c.universe + u ≤ m → c.universe ≤ m → AreKnownTrees c zs → Knows (in_universe c m) (placeholder_at c.universe zs o u n)
  placeholder_known m zs sort.Ty (suc u) n b l h = ((tt, b, refl), tt, tt)
  placeholder_known m zs sort.Region (suc u) n b l h = ((tt, b, refl), tt, tt)
  placeholder_known m zs sort.Const (suc u) n b l h = ((tt, b, refl), tt, tt)
  placeholder_known m zs o zero n b l h = at zs n h
    where
      at : (zs : List Tree) (n : ℕ) → AreKnownTrees c zs → Knows (in_universe c m) (get_or zs n empty)
      at [] n h = tt
      at (z ∷ zs) zero h = Knows-kept c (in_universe c m) z (record { grows = l; kinds = λ n k q. q }) h.0
      at (z ∷ zs) (suc n) h = at zs n h.1

  chosen : (b : ℕ) (k : PositionKind) (t x : Tree) (d e : Content) (w v : World) → AreKnownTrees c os → ((z : Tree) → IsOriginalAt values os b z → inst w z ≡ x) → SoFar d w v
      → Chooses c values os b k t d e → IsImageOf w c.universe os k x → IsNamedBy term_level c.universe k x → Chosen c d e c.universe k v x t
  chosen b (type_variable u r) t x d e w v known point so h value named = variable_chosen b kind.Ty (type_variable u r) t x d e w v (λ f q. q) point so h value named
  chosen b integer_variable t x d e w v known point so h value named = variable_chosen b kind.Int integer_variable t x d e w v (λ f q. q) point so h value named
  chosen b float_variable t x d e w v known point so h value named = variable_chosen b kind.Float float_variable t x d e w v (λ f q. q) point so h value named
  chosen b (const_variable u) t x d e w v known point so h value named = variable_chosen b kind.Const (const_variable u) t x d e w v (λ f q. q) point so h value named
  chosen b (region_variable u) t x d e w v known point so h value named = variable_chosen b kind.Region (region_variable u) t x d e w v (λ f q. q) point so h value named
  chosen b (placeholder o u n) t x d e w v known point so (p, has, same) value named =
      subst (λ z. Chosen c d z c.universe (placeholder o u n) v x t) (sym same)
      (kept d c.universe (placeholder o u n) w v x t so (rw p (placeholder_known d.universe os o u n has (let a = so.keeps in a.grows) known)) (ap (inst w) p ∙ sym value))

  variable_kinds : (b : ℕ) (v : VariableKind) (k : PositionKind) (t : Tree) (d e : Content) → ChoosesVariable c values os b k v t d e → KeepsKinds d e
  variable_kinds b v k t d e (inl x) = subst (KeepsKinds d) (sym x.entries) (KeepsKinds-with_slot d x.slot)
  variable_kinds b v k t d e (inr (q, same)) = subst (KeepsKinds d) (sym same) (KeepsKinds-refl d)

  chose_kinds : (b : ℕ) (k : PositionKind) (t : Tree) (d e : Content) → Chooses c values os b k t d e → KeepsKinds d e
  chose_kinds b (type_variable u r) t d e h = variable_kinds b kind.Ty (type_variable u r) t d e h
  chose_kinds b integer_variable t d e h = variable_kinds b kind.Int integer_variable t d e h
  chose_kinds b float_variable t d e h = variable_kinds b kind.Float float_variable t d e h
  chose_kinds b (const_variable u) t d e h = variable_kinds b kind.Const (const_variable u) t d e h
  chose_kinds b (region_variable u) t d e h = variable_kinds b kind.Region (region_variable u) t d e h
  chose_kinds b (placeholder o u n) t d e (p, has, same) = subst (KeepsKinds d) (sym same) (KeepsKinds-refl d)

  pub record AllChosen (d f : Content) (ks : List PositionKind) (v : World) (xs ts : List Tree) : Type 0 where
    pub world : World
    pub agrees : Agrees (length d.slots) v world
    pub solves : Solves f world
    pub longer : length d.slots ≤ length f.slots
    pub proper : IsProperContent f
    pub images : map (inst world) ts ≡ xs
    pub names : (g : Label → Option ℕ) → IsNameable g d v → AreNamedBy g c.universe ks xs → IsNameable g f world
    pub known : AreKnownTrees f ts
    pub keeps : KeepsKinds d f

  -- for any images that the kinds allow there is a solution in which what was chosen has them
  pub all_chosen : (b : ℕ) (ks : List PositionKind) (ts xs : List Tree) (d f : Content) (w v : World) → AreKnownTrees c os
      → ((i n : ℕ) (z : Tree) → n ≡ b + i → IsOriginalAt values os n z → inst w z ≡ get_or xs i empty) → SoFar d w v
      → ChoosesAll c values os b ks ts d f → AreImagesOf w c.universe os ks xs → AreNamedBy term_level c.universe ks xs → AllChosen d f ks v xs ts
  all_chosen b [] [] [] d f w v known point so h m q =
      record { world = v; agrees = Agrees-refl (length d.slots) v; solves = rw h (so.solves); longer = rw h (omega arith); proper = rw h (so.proper); images = refl; names = λ g y z. rw h y; known = tt; keeps = subst (KeepsKinds d) (sym h) (KeepsKinds-refl d) }
  all_chosen b [] [] (x ∷ xs) d f w v known point so h m q = absurd m
  all_chosen b [] (t ∷ ts) xs d f w v known point so h m q = absurd h
  all_chosen b (k ∷ ks) [] xs d f w v known point so h m q = absurd h
  all_chosen b (k ∷ ks) (t ∷ ts) [] d f w v known point so h m q = absurd m
  all_chosen b (k ∷ ks) (t ∷ ts) (x ∷ xs) d f w v known point so (e, one, rest) m q =
      let c1 = chosen b k t x d e w v known (λ z i. point 0 b z (omega arith) i) so one m.0 q.0 in
      let steps : KeepsKinds d e = chose_kinds b k t d e one in
      let so' : SoFar e w c1.world = record {
        proper = c1.proper;
        solves = c1.solves;
        agrees = Agrees-trans (length c.slots) (length d.slots) w v c1.world so.longer so.agrees c1.agrees;
        longer = (let a = so.longer in let y = c1.longer in omega (arith, a, y));
        keeps = KeepsKinds-trans so.keeps steps;
      } in
      let c2 = all_chosen (suc b) ks ts xs e f w c1.world known (λ i n z y o. point (suc i) n z (omega (arith, y)) o) so' rest m.1 q.1 in
      record {
        world = c2.world;
        agrees = Agrees-trans (length d.slots) (length e.slots) v c1.world c2.world c1.longer c1.agrees c2.agrees;
        solves = c2.solves;
        longer = (let a = c1.longer in let y = c2.longer in omega (arith, a, y));
        proper = c2.proper;
        images = cc (inst-agrees e c1.world c2.world t c2.agrees c1.knows ∙ c1.image, c2.images);
        names = λ g y z. c2.names g (c1.names g y z.0) z.1;
        known = (Knows-kept e f t c2.keeps c1.knows, c2.known);
        keeps = KeepsKinds-trans steps c2.keeps;
      }

  -- what was chosen stands for the positions
  stands_variable : (b : ℕ) (v : VariableKind) (k : PositionKind) (t : Tree) (d e f : Content) → IsSound f → HoldsTerms f → Continues c f → Continues e f → ChoosesVariable c values os b k v t d e → IsTermFor f v t
  stands_variable b v k t d e f s h g l (inl n) =
      let there : kind_at e (length d.slots) ≡ Some v = ap (λ z. kind_at z (length d.slots)) n.entries ∙ field-with_slot_new (λ x. x.kind) d n.slot ∙ ap Some n.of_kind in
      let later : kind_at f (length d.slots) ≡ Some v = l.kinds (length d.slots) v there in
      rw n.tree (record { knows = ((later, tt, refl), tt, tt); fits = Fits-deeply_resolved f v (length d.slots) s h later; formed = (tt, tt); closed = (tt, tt) })
  stands_variable b v k t d e f s h g l (inr (q, same)) =
      let knows : Knows f t = Knows-kept c f t (record { grows = g.grows; kinds = g.kinds }) q.knows in
      let value = q.value in
      record { knows = knows; fits = subst (Fits v) (instance_of-reading f s h t knows q.formed) (Fits-instance (reading_of f s h) v t value.fits); formed = q.formed; closed = value.closed }

  stands_chosen : (b : ℕ) (k : PositionKind) (t : Tree) (d e f : Content) → IsSound f → HoldsTerms f → Continues c f → Continues e f → Chooses c values os b k t d e → StandsFor f c.universe os k t
  stands_chosen b (type_variable u r) t d e f s h g l x = stands_variable b kind.Ty (type_variable u r) t d e f s h g l x
  stands_chosen b integer_variable t d e f s h g l x = stands_variable b kind.Int integer_variable t d e f s h g l x
  stands_chosen b float_variable t d e f s h g l x = stands_variable b kind.Float float_variable t d e f s h g l x
  stands_chosen b (const_variable u) t d e f s h g l x = stands_variable b kind.Const (const_variable u) t d e f s h g l x
  stands_chosen b (region_variable u) t d e f s h g l x = stands_variable b kind.Region (region_variable u) t d e f s h g l x
  stands_chosen b (placeholder o u n) t d e f s h g l x = x.0

  variable_continues : (b : ℕ) (v : VariableKind) (k : PositionKind) (t : Tree) (d e : Content) → IsProperContent d → ChoosesVariable c values os b k v t d e → Continues d e × IsProperContent e
  variable_continues b v k t d e p (inl n) = (subst (Continues d) (sym n.entries) (Continues-with_slot d n.slot n.free p.sound), n.proper)
  variable_continues b v k t d e p (inr (q, same)) = (subst (Continues d) (sym same) (Continues-refl d p.sound), subst IsProperContent (sym same) p)

  one_continues : (b : ℕ) (k : PositionKind) (t : Tree) (d e : Content) → IsProperContent d → Chooses c values os b k t d e → Continues d e × IsProperContent e
  one_continues b (type_variable u r) t d e p h = variable_continues b kind.Ty (type_variable u r) t d e p h
  one_continues b integer_variable t d e p h = variable_continues b kind.Int integer_variable t d e p h
  one_continues b float_variable t d e p h = variable_continues b kind.Float float_variable t d e p h
  one_continues b (const_variable u) t d e p h = variable_continues b kind.Const (const_variable u) t d e p h
  one_continues b (region_variable u) t d e p h = variable_continues b kind.Region (region_variable u) t d e p h
  one_continues b (placeholder o u n) t d e p (q, has, same) = (subst (Continues d) (sym same) (Continues-refl d p.sound), subst IsProperContent (sym same) p)

  pub chose_continues : (b : ℕ) (ks : List PositionKind) (ts : List Tree) (d f : Content) → IsProperContent d → ChoosesAll c values os b ks ts d f → Continues d f × IsProperContent f
  chose_continues b [] [] d f p h = (subst (Continues d) (sym h) (Continues-refl d p.sound), subst IsProperContent (sym h) p)
  chose_continues b [] (t ∷ ts) d f p h = absurd h
  chose_continues b (k ∷ ks) [] d f p h = absurd h
  chose_continues b (k ∷ ks) (t ∷ ts) d f p (e, one, rest) =
      let first = one_continues b k t d e p one in
      let later = chose_continues (suc b) ks ts e f first.1 rest in
      (Continues-trans d e f p.sound first.0 later.0, later.1)

  pub stand_all : (b : ℕ) (ks : List PositionKind) (ts : List Tree) (d m f : Content) → IsSound f → HoldsTerms f → Continues c f → IsProperContent d → Continues m f → ChoosesAll c values os b ks ts d m → StandForAll f c.universe os ks ts
  stand_all b [] [] d m f s h g p l x = tt
  stand_all b [] (t ∷ ts) d m f s h g p l x = absurd x
  stand_all b (k ∷ ks) [] d m f s h g p l x = absurd x
  stand_all b (k ∷ ks) (t ∷ ts) d m f s h g p l (e, one, rest) =
      let first = one_continues b k t d e p one in
      let later = chose_continues (suc b) ks ts e m first.1 rest in
      let e_proper = first.1 in
      (stands_chosen b k t d e f s h g (Continues-trans e m f e_proper.sound later.0 l) one, stand_all (suc b) ks ts e m f s h g e_proper l rest)
