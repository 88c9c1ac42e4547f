-- Values made equal to originals, constraints recorded, and a response applied as a whole.
use Rattle.std.proofs.Common.{◌≡◌, ◌⊎◌, inl, inr, ⊎_elim, ℕ, ◌+◌, ◌≤◌, List, [], ◌∷◌, map, length, Option, refl, sym, ap, ◌∙◌, arith, subst}
use Rattle.std.specs.Prelude.{Contains}
use Rattle.nts_model.specs.declared.labels.Relation.{Relation}
use Rattle.nts_model.specs.declared.labels.Relation.TheVariants as relation
use Rattle.nts_model.specs.declared.labels.Leaf.{Leaf}
use Rattle.nts_model.specs.declared.labels.Leaf.TheVariants as leaf
use Rattle.nts_model.specs.declared.labels.Label.{Label}
use Rattle.nts_model.specs.declared.labels.Label.TheVariants as label
use Rattle.nts_model.specs.Terms.Trees.{Tree, empty, more, node, IsFormed}
use Rattle.nts_model.specs.Tables.Contents.{Content, Recorded, in_universe}
use Rattle.nts_model.specs.Tables.Resolving.{Knows, IsSound}
use Rattle.nts_model.specs.Tables.Levels.{term_level}
use Rattle.nts_model.specs.Tables.Worlds.{World, inst, IsTrueOf, IsMet, IsNameable, Solves, Agrees}
use Rattle.nts_model.specs.Tables.Holding.{HoldsConstraint, Continues}
use Rattle.nts_model.specs.Tables.Equations.{ExtensionIf, Extension, AreRelated, AreUnrelated}
use Rattle.nts_model.specs.Terms.Substitutions.{leaf_tree, put, filled, position_of, value_or}
use Rattle.nts_model.specs.Derivations.Proving.{HoldsTerms}
use Rattle.nts_model.specs.Derivations.Handlers.{IsFixed}
use Rattle.nts_model.specs.Answers.Responses.{Response, StandForAll, recorded_by, AreImagesOf, AreNamedBy, read_in, AreEqualIn, AreMetIn, GrantsFor, AreAlikeValues, Applies, RefusesResponse, IsOverPositions}
use Rattle.nts_model.specs.Answers.Applying.{IsProperContent, IsOriginalAt, ChoosesAll, MakesEqual, Records, AreKnownTrees}
use Rattle.nts_model.proofs.Tables.Slots.{Knows-kept}
use Rattle.nts_model.proofs.Tables.Held.{HoldsConstraint-continues, Continues-refl, Continues-trans, Continues-in_universe}
use Rattle.nts_model.proofs.Tables.Instances.{inst-agrees, Agrees-refl, Agrees-trans}
use Rattle.nts_model.proofs.Tables.Solving.{Solves-in_universe, Solves-from_in_universe}
use Rattle.nts_model.proofs.Tables.Alike.{AreAlike-continues}
use Rattle.nts_model.proofs.Lists.{contains_none, first_or_later}
use Rattle.nts_model.proofs.Canonical.Positioned.{over_first, over_rest, over_children, inst-filled}
use Rattle.nts_theory.proofs.Responses.Answering.{AllTrees, AllSides}
use Rattle.nts_theory.proofs.Responses.Applying.{all_seen, AllChosen, all_chosen, one_point, chose_continues, stand_all}

-- the originals are the values, where trees were chosen for the positions
abbrev pub AreEqualTrees : World → List Tree → List Tree → List Tree → Type 0
AreEqualTrees w chosen [] [] = Unit {0}
AreEqualTrees w chosen (v ∷ vs) (o ∷ os) = (inst w (filled chosen v) ≡ inst w o) × AreEqualTrees w chosen vs os
AreEqualTrees w chosen vs os = ⊥

abbrev pub AreMetTrees : World → List Tree → List Recorded → Type 0
AreMetTrees w chosen [] = Unit {0}
AreMetTrees w chosen (x ∷ xs) = IsMet w (recorded_by (filled chosen) x) × AreMetTrees w chosen xs

-- values that the table knows once they are filled
abbrev pub AreKnownFilled : Content → List Tree → List Tree → Type 0
AreKnownFilled c chosen [] = Unit {0}
AreKnownFilled c chosen (v ∷ vs) = Knows c (filled chosen v) × AreKnownFilled c chosen vs

abbrev pub AreKnownSides : Content → List Tree → List Recorded → Type 0
AreKnownSides c chosen [] = Unit {0}
AreKnownSides c chosen (x ∷ xs) = Knows c (filled chosen x.left) × Knows c (filled chosen x.right) × AreKnownSides c chosen xs

known_later : (c d : Content) (t : Tree) → Continues c d → Knows c t → Knows d t
known_later c d t g h = Knows-kept c d t (record { grows = g.grows; kinds = g.kinds }) h

pub trees_later : (c d : Content) (ts : List Tree) → Continues c d → AreKnownTrees c ts → AreKnownTrees d ts
trees_later c d [] g h = tt
trees_later c d (t ∷ ts) g h = (known_later c d t g h.0, trees_later c d ts g h.1)

filled_later : (c d : Content) (chosen ts : List Tree) → Continues c d → AreKnownFilled c chosen ts → AreKnownFilled d chosen ts
filled_later c d chosen [] g h = tt
filled_later c d chosen (t ∷ ts) g h = (known_later c d (filled chosen t) g h.0, filled_later c d chosen ts g h.1)

sides_later : (c d : Content) (chosen : List Tree) (xs : List Recorded) → Continues c d → AreKnownSides c chosen xs → AreKnownSides d chosen xs
sides_later c d chosen [] g h = tt
sides_later c d chosen (x ∷ xs) g h = (known_later c d (filled chosen x.left) g h.0, known_later c d (filled chosen x.right) g h.1, sides_later c d chosen xs g h.2)

-- made equal, seen from the table afterwards
record AreMade (c d : Content) (w : World) (chosen vs os : List Tree) : Type 0 where
  pub solves : Solves c w
  pub equal : AreEqualTrees w chosen vs os

made_sound : (chosen vs os : List Tree) (c d : Content) (w : World) → MakesEqual chosen vs os c d → Solves d w → AreMade c d w chosen vs os
made_sound chosen [] [] c d w h s = record { solves = subst (λ z. Solves z w) h s; equal = tt }
made_sound chosen [] (o ∷ os) c d w h s = absurd h
made_sound chosen (v ∷ vs) [] c d w h s = absurd h
made_sound chosen (v ∷ vs) (o ∷ os) c d w (e, one, proper, rest) s =
    let later = made_sound chosen vs os e d w rest s in
    let here = one.sound w later.solves in
    record { solves = here.0; equal = (here.1, later.equal) }

equal_agrees : (c : Content) (w v : World) (chosen vs os : List Tree) → Agrees (length c.slots) w v → AreKnownFilled c chosen vs → AreKnownTrees c os → AreEqualTrees w chosen vs os → AreEqualTrees v chosen vs os
equal_agrees c w v chosen [] [] a k l h = tt
equal_agrees c w v chosen [] (o ∷ os) a k l h = absurd h
equal_agrees c w v chosen (t ∷ ts) [] a k l h = absurd h
equal_agrees c w v chosen (t ∷ ts) (o ∷ os) a k l h = (inst-agrees c w v (filled chosen t) a k.0 ∙ h.0 ∙ sym (inst-agrees c w v o a l.0), equal_agrees c w v chosen ts os a k.1 l.1 h.1)

pub extension_trans : (c d e : Content) (w : World) (N : (Label → Option ℕ) → Type 0) → length c.slots ≤ length d.slots → (x : ExtensionIf c d w N) → Extension d e x.world → ExtensionIf c e w N
extension_trans c d e w N l x y =
    record {
      world = y.world;
      agrees = Agrees-trans (length c.slots) (length d.slots) w x.world y.world l x.agrees y.agrees;
      solves = y.solves;
      names = λ f h n. y.names f (x.names f h n) tt;
    }

extension_itself : (c d : Content) (w : World) → d ≡ c → Solves c w → Extension c d w
extension_itself c d w e s =
    record { world = w; agrees = Agrees-refl (length c.slots) w; solves = subst (λ z. Solves z w) (sym e) s; names = λ f h n. subst (λ z. IsNameable f z w) (sym e) h }

made_complete : (chosen vs os : List Tree) (c d : Content) (w : World) → AreKnownFilled c chosen vs → AreKnownTrees c os → MakesEqual chosen vs os c d → Solves c w → AreEqualTrees w chosen vs os → Extension c d w
made_complete chosen [] [] c d w k l h s q = extension_itself c d w h s
made_complete chosen [] (o ∷ os) c d w k l h s q = absurd h
made_complete chosen (v ∷ vs) [] c d w k l h s q = absurd h
made_complete chosen (v ∷ vs) (o ∷ os) c d w k l (e, one, proper, rest) s q =
    let x : Extension c e w = one.complete w s q.0 in
    let g = one.continues in
    let y = made_complete chosen vs os e d x.world (filled_later c e chosen vs g k.1) (trees_later c e os g l.1) rest x.solves (equal_agrees c w x.world chosen vs os x.agrees k.1 l.1 q.1) in
    extension_trans c e d w (λ f. Unit {0}) g.more x y

made_continues : (chosen vs os : List Tree) (c d : Content) → IsSound c → MakesEqual chosen vs os c d → Continues c d
made_continues chosen [] [] c d s h = subst (Continues c) (sym h) (Continues-refl c s)
made_continues chosen [] (o ∷ os) c d s h = absurd h
made_continues chosen (v ∷ vs) [] c d s h = absurd h
made_continues chosen (v ∷ vs) (o ∷ os) c d s (e, one, proper, rest) = Continues-trans c e d s one.continues (made_continues chosen vs os e d proper.sound rest)

made_proper : (chosen vs os : List Tree) (c d : Content) → IsProperContent c → MakesEqual chosen vs os c d → IsProperContent d
made_proper chosen [] [] c d s h = subst IsProperContent (sym h) s
made_proper chosen [] (o ∷ os) c d s h = absurd h
made_proper chosen (v ∷ vs) [] c d s h = absurd h
made_proper chosen (v ∷ vs) (o ∷ os) c d s (e, one, proper, rest) = made_proper chosen vs os e d proper rest

made_alike : (chosen vs os : List Tree) (c d : Content) → IsProperContent c → AreKnownFilled c chosen vs → AreKnownTrees c os → MakesEqual chosen vs os c d → AreAlikeValues d chosen vs os
made_alike chosen [] [] c d p k l h = tt
made_alike chosen [] (o ∷ os) c d p k l h = absurd h
made_alike chosen (v ∷ vs) [] c d p k l h = absurd h
made_alike chosen (v ∷ vs) (o ∷ os) c d p k l (e, one, proper, rest) =
    let g = one.continues in
    let to : Continues e d = made_continues chosen vs os e d proper.sound rest in
    let last = made_proper chosen vs os e d proper rest in (
      AreAlike-continues e d (filled chosen v) o proper.sound last.sound to proper.sides (known_later c e (filled chosen v) g k.0) (known_later c e o g l.0) one.alike,
      made_alike chosen vs os e d proper (filled_later c e chosen vs g k.1) (trees_later c e os g l.1) rest,
    )

-- constraints recorded
record AreSet (c d : Content) (w : World) (chosen : List Tree) (xs : List Recorded) : Type 0 where
  pub solves : Solves c w
  pub met : AreMetTrees w chosen xs

set_sound : (chosen : List Tree) (xs : List Recorded) (c d : Content) (w : World) → Records chosen xs c d → Solves d w → AreSet c d w chosen xs
set_sound chosen [] c d w h s = record { solves = subst (λ z. Solves z w) h s; met = tt }
set_sound chosen (x ∷ xs) c d w (e, one, rest) s =
    let later = set_sound chosen xs e d w rest s in
    let here = one.narrows.sound w later.solves in
    record { solves = here.0; met = (here.1, later.met) }

set_complete : (chosen : List Tree) (xs : List Recorded) (c d : Content) (w : World) → Records chosen xs c d → Solves c w → AreMetTrees w chosen xs → Solves d w
set_complete chosen [] c d w h s m = subst (λ z. Solves z w) (sym h) s
set_complete chosen (x ∷ xs) c d w (e, one, rest) s m = set_complete chosen xs e d w rest (one.narrows.complete w s m.0) m.1

set_names : (f : Label → Option ℕ) (chosen : List Tree) (xs : List Recorded) (c d : Content) (w : World) → Records chosen xs c d → Solves c w → IsNameable f c w → AreMetTrees w chosen xs → IsNameable f d w
set_names f chosen [] c d w h s n m = subst (λ z. IsNameable f z w) (sym h) n
set_names f chosen (x ∷ xs) c d w (e, one, rest) s n m = set_names f chosen xs e d w rest (one.narrows.complete w s m.0) (one.narrows.names f w s n m.0) m.1

set_continues : (chosen : List Tree) (xs : List Recorded) (c d : Content) → IsSound c → Records chosen xs c d → Continues c d
set_continues chosen [] c d s h = subst (Continues c) (sym h) (Continues-refl c s)
set_continues chosen (x ∷ xs) c d s (e, one, rest) = (let p = one.proper in Continues-trans c e d s one.continues (set_continues chosen xs e d p.sound rest))

set_proper : (chosen : List Tree) (xs : List Recorded) (c d : Content) → IsProperContent c → Records chosen xs c d → IsProperContent d
set_proper chosen [] c d s h = subst IsProperContent (sym h) s
set_proper chosen (x ∷ xs) c d s (e, one, rest) = set_proper chosen xs e d one.proper rest

set_held : (chosen : List Tree) (xs : List Recorded) (c d : Content) → AreKnownSides c chosen xs → Records chosen xs c d → (x : Recorded) → Contains xs x → HoldsConstraint d (recorded_by (filled chosen) x)
set_held chosen [] c d k h x i = absurd (contains_none x i)
set_held chosen (y ∷ xs) c d k (e, one, rest) x i = ⊎_elim
    (λ q. let p = one.proper in
    let g = one.continues in
    let here : HoldsConstraint d (recorded_by (filled chosen) y) =
    HoldsConstraint-continues e d (recorded_by (filled chosen) y) (set_continues chosen xs e d p.sound rest) p.sides (known_later c e (filled chosen y.left) g k.0) (known_later c e (filled chosen y.right) g k.1) one.held in
    subst (λ z. HoldsConstraint d (recorded_by (filled chosen) z)) q here)
    (λ j. set_held chosen xs e d (sides_later c e chosen xs one.continues k.2) rest x j)
    (first_or_later y xs x i)

-- a world reads a response as it reads the trees
pub reads_equal : (w : World) (chosen ts os : List Tree) → AllTrees IsFormed ts → AreEqualTrees w chosen ts os → AreEqualIn w (map (inst w) chosen) ts os
reads_equal w chosen [] [] f h = tt
reads_equal w chosen [] (o ∷ os) f h = absurd h
reads_equal w chosen (t ∷ ts) [] f h = absurd h
reads_equal w chosen (t ∷ ts) (o ∷ os) f h = (sym (inst-filled w chosen t f.0) ∙ h.0, reads_equal w chosen ts os f.1 h.1)

pub reads_met : (w : World) (chosen : List Tree) (xs : List Recorded) → AllSides IsFormed xs → AreMetTrees w chosen xs → AreMetIn w (map (inst w) chosen) xs
reads_met w chosen [] f h = tt
reads_met w chosen (x ∷ xs) f h = (
  subst (λ z. IsTrueOf w x.relation z (read_in w (map (inst w) chosen) x.right)) (inst-filled w chosen x.left f.0)
      (subst (IsTrueOf w x.relation (inst w (filled chosen x.left))) (inst-filled w chosen x.right f.1) h.0),
  reads_met w chosen xs f.2 h.1,
)

equal_reads : (w : World) (chosen ts os : List Tree) → AllTrees IsFormed ts → AreEqualIn w (map (inst w) chosen) ts os → AreEqualTrees w chosen ts os
equal_reads w chosen [] [] f h = tt
equal_reads w chosen [] (o ∷ os) f h = absurd h
equal_reads w chosen (t ∷ ts) [] f h = absurd h
equal_reads w chosen (t ∷ ts) (o ∷ os) f h = (inst-filled w chosen t f.0 ∙ h.0, equal_reads w chosen ts os f.1 h.1)

met_reads : (w : World) (chosen : List Tree) (xs : List Recorded) → AllSides IsFormed xs → AreMetIn w (map (inst w) chosen) xs → AreMetTrees w chosen xs
met_reads w chosen [] f h = tt
met_reads w chosen (x ∷ xs) f h = (
  subst (λ z. IsTrueOf w x.relation z (inst w (filled chosen x.right))) (sym (inst-filled w chosen x.left f.0))
      (subst (IsTrueOf w x.relation (read_in w (map (inst w) chosen) x.left)) (sym (inst-filled w chosen x.right f.1)) h.0),
  met_reads w chosen xs f.2 h.1,
)

-- worlds that agree read a term over positions alike
fixed_agrees : (n : ℕ) (w v : World) (l : Leaf) → Agrees n w v → IsFixed l → inst v (leaf_tree l) ≡ inst w (leaf_tree l)
fixed_agrees n w v (leaf.Region r) a h = ap (λ z. leaf_tree (leaf.Region z)) (a.regions r)
fixed_agrees n w v (leaf.Variable k m) a h = absurd h
fixed_agrees n w v (leaf.TyConstant x) a h = absurd h
fixed_agrees n w v (leaf.ConstConstant x) a h = absurd h

put_agrees : (n : ℕ) (w v : World) (l : Label) (c x y : Tree) → Agrees n w v → IsOverPositions (node l c) → x ≡ y → put (λ z. inst v (leaf_tree z)) l x ≡ put (λ z. inst w (leaf_tree z)) l y
put_agrees n w v (label.Leaf z) c x y a h e = fixed_agrees n w v z a (h.leaves z (inl refl))
put_agrees n w v (label.Bound i j k) c x y a h e = ap (node (label.Bound i j k)) e
put_agrees n w v (label.Ty z) c x y a h e = ap (node (label.Ty z)) e
put_agrees n w v (label.Const z) c x y a h e = ap (node (label.Const z)) e
put_agrees n w v (label.Clause z) c x y a h e = ap (node (label.Clause z)) e
put_agrees n w v (label.Predicate z) c x y a h e = ap (node (label.Predicate z)) e
put_agrees n w v (label.List z) c x y a h e = ap (node (label.List z)) e

pub read-agrees : (n : ℕ) (w v : World) (xs : List Tree) (t : Tree) → Agrees n w v → IsOverPositions t → read_in v xs t ≡ read_in w xs t
read-agrees n w v xs empty a h = refl
read-agrees n w v xs (more s t) a h = cc (read-agrees n w v xs s a (over_first s t h), read-agrees n w v xs t a (over_rest s t h))
read-agrees n w v xs (node l c) a h = ap (value_or (position_of l) xs) (put_agrees n w v l c (read_in v xs c) (read_in w xs c) a h (read-agrees n w v xs c a (over_children l c h)))

equal_in_agrees : (c : Content) (w v : World) (xs ts os : List Tree) → Agrees (length c.slots) w v → AllTrees IsOverPositions ts → AreKnownTrees c os → AreEqualIn w xs ts os → AreEqualIn v xs ts os
equal_in_agrees c w v xs [] [] a f k h = tt
equal_in_agrees c w v xs [] (o ∷ os) a f k h = absurd h
equal_in_agrees c w v xs (t ∷ ts) [] a f k h = absurd h
equal_in_agrees c w v xs (t ∷ ts) (o ∷ os) a f k h = (read-agrees (length c.slots) w v xs t a f.0 ∙ h.0 ∙ sym (inst-agrees c w v o a k.0), equal_in_agrees c w v xs ts os a f.1 k.1 h.1)

true_agrees : (n : ℕ) (w v : World) (r : Relation) (x y : Tree) → Agrees n w v → IsTrueOf w r x y → IsTrueOf v r x y
true_agrees n w v relation.Equal x y a h = h
true_agrees n w v relation.RegionOutlives x y a h = ⊎_elim (λ e. inl e) (λ e. inr (a.outlives x y ∙ e)) h
true_agrees n w v relation.TypeOutlives x y a h = a.outlives x y ∙ h

met_in_agrees : (n : ℕ) (w v : World) (xs : List Tree) (rs : List Recorded) → Agrees n w v → AllSides IsOverPositions rs → AreMetIn w xs rs → AreMetIn v xs rs
met_in_agrees n w v xs [] a f h = tt
met_in_agrees n w v xs (x ∷ rs) a f h = (
  rw (read-agrees n w v xs x.left a f.0, read-agrees n w v xs x.right a f.1) (true_agrees n w v x.relation (read_in w xs x.left) (read_in w xs x.right) a h.0),
  met_in_agrees n w v xs rs a f.2 h.1,
)

pub formed_trees : (ts : List Tree) → AllTrees IsOverPositions ts → AllTrees IsFormed ts
formed_trees [] h = tt
formed_trees (t ∷ ts) h = (let a = h.0 in (a.formed, formed_trees ts h.1))

pub formed_sides : (xs : List Recorded) → AllSides IsOverPositions xs → AllSides IsFormed xs
formed_sides [] h = tt
formed_sides (x ∷ xs) h = (let a = h.0 in let b = h.1 in (a.formed, b.formed, formed_sides xs h.2))

-- a response applied: universes, what was chosen, equal values, constraints
module _ (c d e f : Content) (os chosen : List Tree) (r : Response) (proper : IsProperContent c) (first : IsProperContent (in_universe c (c.universe + r.max_universe)))
    (known : AreKnownTrees c os) (values_over : AllTrees IsOverPositions r.findings.values) (sides_over : AllSides IsOverPositions r.findings.constraints)
    (chooses : ChoosesAll c r.findings.values os 0 r.kinds chosen (in_universe c (c.universe + r.max_universe)) d)
    (values_known : AreKnownFilled d chosen r.findings.values) (makes : MakesEqual chosen r.findings.values os d e)
    (sides_known : AreKnownSides d chosen r.findings.constraints) (records : Records chosen r.findings.constraints e f) where
  abbrev moved : Content
  moved = in_universe c (c.universe + r.max_universe)

  to_moved : Continues c moved
  to_moved = Continues-in_universe c (c.universe + r.max_universe) (omega arith) proper.sound

  to_chosen : Continues moved d × IsProperContent d
  to_chosen = chose_continues c r.findings.values os 0 r.kinds chosen moved d first chooses

  to_made : Continues d e
  to_made = (let p = to_chosen.1 in made_continues chosen r.findings.values os d e p.sound makes)

  made_here : IsProperContent e
  made_here = made_proper chosen r.findings.values os d e to_chosen.1 makes

  os_known : AreKnownTrees d os
  os_known = trees_later moved d os to_chosen.0 (trees_later c moved os to_moved known)

  last_here : IsProperContent f
  last_here = set_proper chosen r.findings.constraints e f made_here records

  pub applied_continues : Continues c f
  applied_continues =
      (let p = to_chosen.1 in
      Continues-trans c moved f proper.sound to_moved (Continues-trans moved d f first.sound to_chosen.0 (Continues-trans d e f p.sound to_made (set_continues chosen r.findings.constraints e f made_here.sound records))))

  pub applied_alike : AreAlikeValues f chosen r.findings.values os
  applied_alike =
      later r.findings.values os values_known os_known (made_alike chosen r.findings.values os d e to_chosen.1 values_known os_known makes)
    where
      last : IsProperContent f
      last = set_proper chosen r.findings.constraints e f made_here records

      later : (vs zs : List Tree) → AreKnownFilled d chosen vs → AreKnownTrees d zs → AreAlikeValues e chosen vs zs → AreAlikeValues f chosen vs zs
      later [] [] k l h = tt
      later [] (z ∷ zs) k l h = absurd h
      later (v ∷ vs) [] k l h = absurd h
      later (v ∷ vs) (z ∷ zs) k l h = (
        AreAlike-continues e f (filled chosen v) z made_here.sound last.sound (set_continues chosen r.findings.constraints e f made_here.sound records) made_here.sides
            (known_later d e (filled chosen v) to_made k.0) (known_later d e z to_made l.0) h.0,
        later vs zs k.1 l.1 h.1,
      )

  pub applied_sound : (w : World) → Solves f w → Solves c w × ((vs : List Tree) × GrantsFor c.universe os r w vs)
  applied_sound w s =
      let a = set_sound chosen r.findings.constraints e f w records s in
      let b = made_sound chosen r.findings.values os d e w makes a.solves in
      let back : Solves moved w → Solves c w = Solves-from_in_universe c (c.universe + r.max_universe) w in
      let z = all_seen c r.findings.values os 0 r.kinds chosen moved d w back chooses b.solves in (
        back z.solves,
        (
          map (inst w) chosen,
          record {
            images = z.images;
            named = z.named;
            equal = reads_equal w chosen r.findings.values os (formed_trees r.findings.values values_over) b.equal;
            met = reads_met w chosen r.findings.constraints (formed_sides r.findings.constraints sides_over) a.met;
          },
        ),
      )

  -- the values are granted, and the constraints met or not
  chosen_for : (w : World) (vs : List Tree) → Solves c w → AreImagesOf w c.universe os r.kinds vs → AreNamedBy term_level c.universe r.kinds vs → AreEqualIn w vs r.findings.values os
      → AllChosen c r.findings.values os moved d r.kinds w vs chosen
  chosen_for w vs s images named equal =
      all_chosen c r.findings.values os 0 r.kinds chosen vs moved d w w known
      (λ i n z q o. one_point c r.findings.values os vs r.findings.values os w i z equal (let same : n ≡ i = omega (arith, q) in subst (λ j. IsOriginalAt r.findings.values os j z) same o))
      (record { proper = first; solves = Solves-in_universe c (c.universe + r.max_universe) w s; agrees = Agrees-refl (length c.slots) w; longer = omega arith; keeps = record { grows = omega arith; kinds = λ n k q. q } })
      chooses images named

  met_later : (u v : World) → Agrees (length d.slots) u v → (xs : List Recorded) → AreKnownSides d chosen xs → AreMetTrees u chosen xs → AreMetTrees v chosen xs
  met_later u v a [] k h = tt
  met_later u v a (x ∷ xs) k h = (
    rw (inst-agrees d u v (filled chosen x.left) a k.0, inst-agrees d u v (filled chosen x.right) a k.1)
        (true_agrees (length d.slots) u v x.relation (inst u (filled chosen x.left)) (inst u (filled chosen x.right)) a h.0),
    met_later u v a xs k.2 h.1,
  )

  pub applied_complete : (w : World) (vs : List Tree) → Solves c w → GrantsFor c.universe os r w vs → ExtensionIf c f w (λ g. AreNamedBy g c.universe r.kinds vs)
  unfolding extension_trans made_complete
  applied_complete w vs s g =
      let a = chosen_for w vs s g.images g.named g.equal in
      let u = a.world in
      let near : Agrees (length c.slots) w u = a.agrees in
      let equal : AreEqualTrees u chosen r.findings.values os =
      equal_reads u chosen r.findings.values os (formed_trees r.findings.values values_over)
      (subst (λ z. AreEqualIn u z r.findings.values os) (sym a.images) (equal_in_agrees c w u vs r.findings.values os near values_over known g.equal)) in
      let x : ExtensionIf c d w (λ h. AreNamedBy h c.universe r.kinds vs) =
      record { world = u; agrees = near; solves = a.solves; names = λ h n q. a.names h (record { each = n.each }) q } in
      let y : Extension d e u = made_complete chosen r.findings.values os d e u values_known os_known makes a.solves equal in
      let more : length c.slots ≤ length d.slots = a.longer in
      let there : ExtensionIf c e w (λ h. AreNamedBy h c.universe r.kinds vs) = extension_trans c d e w (λ h. AreNamedBy h c.universe r.kinds vs) more x y in
      let v = there.world in
      let met_u : AreMetTrees u chosen r.findings.constraints =
      met_reads u chosen r.findings.constraints (formed_sides r.findings.constraints sides_over)
      (subst (λ z. AreMetIn u z r.findings.constraints) (sym a.images) (met_in_agrees (length c.slots) w u vs r.findings.constraints near sides_over g.met)) in
      let met : AreMetTrees v chosen r.findings.constraints = met_later u v y.agrees r.findings.constraints sides_known met_u in
      record {
        world = v;
        agrees = there.agrees;
        solves = set_complete chosen r.findings.constraints e f v records there.solves met;
        names = λ h n q. set_names h chosen r.findings.constraints e f v records there.solves (there.names h n q) met;
      }

  pub applied_stand : HoldsTerms f → StandForAll f c.universe os r.kinds chosen
  applied_stand terms =
      let p = last_here in
      stand_all c r.findings.values os 0 r.kinds chosen moved d f p.sound terms applied_continues first
      (let q = to_chosen.1 in Continues-trans d e f q.sound to_made (set_continues chosen r.findings.constraints e f made_here.sound records)) chooses

  pub applied_held : (x : Recorded) → Contains r.findings.constraints x → HoldsConstraint f (recorded_by (filled chosen) x)
  applied_held = set_held chosen r.findings.constraints e f (sides_later d e chosen r.findings.constraints to_made sides_known) records

  abbrev pub applied : HoldsTerms f → Applies c f os r
  applied terms =
      record {
        chosen = chosen;
        stand = applied_stand terms;
        continues = applied_continues;
        alike = applied_alike;
        held = applied_held;
        sound = applied_sound;
        complete = applied_complete;
      }

-- the originals could not be made equal to the values: after some were, the next could not
abbrev pub FailsToEqual : List Tree → List Tree → List Tree → Content → Type 0
FailsToEqual chosen (v ∷ vs) (o ∷ os) c =
    AreUnrelated c (filled chosen v) o ⊎ ((e : Content) × AreRelated c e (filled chosen v) o × IsProperContent e × FailsToEqual chosen vs os e)
FailsToEqual chosen vs os c = ⊥

fails_equal : (chosen vs os : List Tree) (c : Content) (w : World) → AreKnownFilled c chosen vs → AreKnownTrees c os → FailsToEqual chosen vs os c → Solves c w → AreEqualTrees w chosen vs os → ⊥
fails_equal chosen [] os c w k l h s q = absurd h
fails_equal chosen (v ∷ vs) [] c w k l h s q = absurd h
fails_equal chosen (v ∷ vs) (o ∷ os) c w k l (inl differs) s q = differs.none w s q.0
fails_equal chosen (v ∷ vs) (o ∷ os) c w k l (inr (e, one, proper, rest)) s q =
    let x : Extension c e w = one.complete w s q.0 in
    let g = one.continues in
    fails_equal chosen vs os e x.world (filled_later c e chosen vs g k.1) (trees_later c e os g l.1) rest x.solves (equal_agrees c w x.world chosen vs os x.agrees k.1 l.1 q.1)

-- then no solution grants that the originals are the values
pub refused : (c d : Content) (os chosen : List Tree) (r : Response) → IsProperContent c → IsProperContent (in_universe c (c.universe + r.max_universe)) → AreKnownTrees c os → AllTrees IsOverPositions r.findings.values
    → ChoosesAll c r.findings.values os 0 r.kinds chosen (in_universe c (c.universe + r.max_universe)) d → AreKnownFilled d chosen r.findings.values → FailsToEqual chosen r.findings.values os d → RefusesResponse c os r
refused c d os chosen r proper first known over chooses filled_known fails = record {
  none = λ w vs s images named equal.
      (let a = all_chosen c r.findings.values os 0 r.kinds chosen vs (in_universe c (c.universe + r.max_universe)) d w w known
      (λ i n z q o. (let same : n ≡ i = omega (arith, q) in one_point c r.findings.values os vs r.findings.values os w i z equal (subst (λ j. IsOriginalAt r.findings.values os j z) same o)))
      (record { proper = first; solves = Solves-in_universe c (c.universe + r.max_universe) w s; agrees = Agrees-refl (length c.slots) w; longer = omega arith; keeps = record { grows = omega arith; kinds = λ n k q. q } })
      chooses images named in
      let u = a.world in
      let same : AreEqualTrees u chosen r.findings.values os =
      equal_reads u chosen r.findings.values os (formed_trees r.findings.values over)
      (subst (λ z. AreEqualIn u z r.findings.values os) (sym a.images) (equal_in_agrees c w u vs r.findings.values os a.agrees over known equal)) in
      let m = chose_continues c r.findings.values os 0 r.kinds chosen (in_universe c (c.universe + r.max_universe)) d first chooses in
      let there : AreKnownTrees d os = trees_later (in_universe c (c.universe + r.max_universe)) d os m.0 (trees_later c (in_universe c (c.universe + r.max_universe)) os (Continues-in_universe c (c.universe + r.max_universe) (omega arith) proper.sound) known) in
      fails_equal chosen r.findings.values os d u filled_known there fails a.solves same);
}
