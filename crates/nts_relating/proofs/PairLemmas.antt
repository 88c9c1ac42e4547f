-- The pairs that are left, and their weight.
use Rattle.std.proofs.Common.{◌≡◌, ◌≢◌, ℕ, ◌+◌, ◌<◌, Bool, true, false, min, max, List, [], ◌∷◌, ◌++◌, length, Option, Some, None, refl, sym, ap, ◌∙◌, arith, Result, Ok, Err, IfOk}
use Rattle.nts_model.specs.declared.labels.VariableKind.{VariableKind}
use Rattle.nts_model.specs.declared.labels.VariableKind.TheVariants as kind
use Rattle.nts_model.specs.declared.labels.Leaf.TheVariants as leaf
use Rattle.nts_model.specs.declared.labels.Label.{Label}
use Rattle.nts_model.specs.declared.labels.Label.TheVariants as label
use Rattle.nts_model.specs.Terms.Trees.{Tree, empty, more, node, size, row_length, row_at, IsRow, children, label_of, any_label, is_alias, infer_of, variable_of, variable_tree}
use Rattle.nts_model.specs.Tables.Contents.{Content, unset, state_of, kind_at, universe_of}
use Rattle.nts_model.specs.Tables.Levels.{NamesAll, region_level}
use Rattle.nts_model.specs.Tables.Resolving.{Knows, resolved, rooted, IsInfer, IsSound}
use Rattle.nts_model.specs.Tables.Worlds.{World, inst, renamed, Solves, Agrees}
use Rattle.nts_model.specs.Tables.Holding.{AreOne}
use Rattle.nts_model.specs.Tables.Alike.{AreAlike}
use Rattle.nts_model.specs.Tables.Measuring.{closed_aliases}
use Rattle.nts_model.specs.Tables.Equations.{Equates, AllAlike, Reduces, AreRelated}
use Rattle.nts_model.specs.Tables.Passing.{TreePasses, BringsLabelsOf}
use Rattle.nts_model.proofs.Terms.Variables.{infer_of_none}
use Rattle.nts_model.proofs.Tables.Bringing.{brings-of, brings-refl, passes-children, passes-row_at}
use Rattle.nts_model.proofs.Tables.Instances.{inst-node, inst-agrees, Agrees-refl, Agrees-trans}
use Rattle.nts_model.proofs.Tables.Held.{AreOne-continues, Continues-refl, Continues-trans}
use Rattle.nts_model.specs.Tables.Tying.{TiesNew}
use Rattle.nts_model.proofs.Tables.Tying.{TiesNew-same, TiesNew-trans}
use Rattle.nts_model.proofs.Tables.Alike.{AreAlike-one, AreAlike-itself, AreAlike-for, AreAlike-turned, AreAlike-more, AreAlike-children, AreAlike-continues}
use Rattle.nts_model.proofs.Tables.Resolved.{resolved-more, resolved-empty, Knows-row_at, node_step, IsVariable, resolved-variable_link}
use Rattle.nts_store.specs.declared.nodes.NodeId.{NodeId}
use Rattle.nts_store.specs.Growth.{tree_at, IsIn, Extends}
use Rattle.nts_store.proofs.Growing.{IsIn-extended, Extends-refl}
use Rattle.nts_relating.specs.declared.relate.Pair.{Pair}
use Rattle.std.specs.Prelude.{OnOk}
use Rattle.nts_unify.proofs.Changes.{some_inj}
use Rattle.nts_unify.specs.Entries.{Entries}
use Rattle.nts_unify.specs.Reading.{content_of, IsLawful}
use Rattle.nts_unify.specs.Changing.{unset_count, IsLater, KeepsKnowing, is_free_region}
use Rattle.nts_unify.specs.Joining.{Joins}
use Rattle.nts_unify.specs.Unchanged.{HasUnset}
use Rattle.nts_unify.specs.Knowing.{row_from}
use Rattle.nts_relating.specs.Met.{judged_size, JudgesOne, OneBelow}
use Rattle.nts_relating.specs.Relating.{IsOpen, IsClosedHead, IsSet, RegionsRelate, sides_at, all_sides_at, ArePairsIn, AreKnown, PairsPass, PairsBring, total, Pushed, IsValid, IsPairStep, IsPairRun, Running, AreMadeOne, VariablesRelate, IsPlainIn, KeepsPlain}
use Rattle.nts_unify.proofs.Keeping.{IsLater-refl, IsLater-trans, Knows-later, KeepsKnowing-refl}
use Rattle.nts_unify.proofs.JoinLemmas.{free_slot, at_min, at_max}
use Rattle.nts_unify.proofs.Tied.{ties_of_keeps}
use Rattle.nts_relating.proofs.AliasCounts.{aliases_continue, joined_none}
use Rattle.nts_relating.proofs.Plain.{neither, joined_plain, plain_kept, plain_refl, plain_then, plain_front, plain_push, plain_row_at, pairs_plain}
use Rattle.nts_relating.proofs.RegionLemmas.{from_sides, to_sides}
use Rattle.nts_relating.proofs.GenLemmas.{IsFair, unchanged}
use Rattle.nts_relating.proofs.Naming.{lawful_sides, alone_label}
use Rattle.nts_unify.proofs.Looking.{row_from-end, row_from-step}
use Rattle.nts_relating.proofs.Judging.{judged-more, one-itself, one-more, below_front}

pub all_sides_at-push : (ts : List Tree) (ps : List Pair) (p : Pair) → all_sides_at ts (ps ++ p ∷ []) ≡ all_sides_at ts ps ++ sides_at ts p ∷ []
all_sides_at-push ts [] p = refl
all_sides_at-push ts (q ∷ ps) p = ap (λ x. sides_at ts q ∷ x) (all_sides_at-push ts ps p)

pub ArePairsIn-push : (ts : List Tree) (ps : List Pair) (p : Pair) → ArePairsIn ts ps → IsIn ts p.left → IsIn ts p.right → ArePairsIn ts (ps ++ p ∷ [])
ArePairsIn-push ts [] p h l r = (l, r, tt)
ArePairsIn-push ts (q ∷ ps) p h l r = (h.0, h.1, ArePairsIn-push ts ps p h.2 l r)

pub ArePairsIn-front : (ts : List Tree) (ps : List Pair) (p : Pair) → ArePairsIn ts (ps ++ p ∷ []) → ArePairsIn ts ps × IsIn ts p.left × IsIn ts p.right
ArePairsIn-front ts [] p h = (tt, h.0, h.1)
ArePairsIn-front ts (q ∷ ps) p h = let i = ArePairsIn-front ts ps p h.2 in ((h.0, h.1, i.0), i.1, i.2)

AreKnown-push : (c : Content) (ps : List (Tree × Tree)) (p : Tree × Tree) → AreKnown c ps → Knows c p.0 → Knows c p.1 → AreKnown c (ps ++ p ∷ [])
AreKnown-push c [] p h l r = (l, r, tt)
AreKnown-push c (q ∷ ps) p h l r = (h.0, h.1, AreKnown-push c ps p h.2 l r)

AreKnown-front : (c : Content) (ps : List (Tree × Tree)) (p : Tree × Tree) → AreKnown c (ps ++ p ∷ []) → AreKnown c ps × Knows c p.0 × Knows c p.1
AreKnown-front c [] p h = (tt, h.0, h.1)
AreKnown-front c (q ∷ ps) p h = let i = AreKnown-front c ps p h.2 in ((h.0, h.1, i.0), i.1, i.2)

AreKnown-later : {c d : Content} (ps : List (Tree × Tree)) → IsLater c d → AreKnown c ps → AreKnown d ps
AreKnown-later [] l h = tt
AreKnown-later (p ∷ ps) l h = (Knows-later p.0 l h.0, Knows-later p.1 l h.1, AreKnown-later ps l h.2)

PairsPass-push : (P : Label → Bool) (ps : List (Tree × Tree)) (p : Tree × Tree) → PairsPass P ps → TreePasses P p.0 → TreePasses P p.1 → PairsPass P (ps ++ p ∷ [])
PairsPass-push P [] p h l r = (l, r, tt)
PairsPass-push P (q ∷ ps) p h l r = (h.0, h.1, PairsPass-push P ps p h.2 l r)

PairsPass-front : (P : Label → Bool) (ps : List (Tree × Tree)) (p : Tree × Tree) → PairsPass P (ps ++ p ∷ []) → PairsPass P ps × TreePasses P p.0 × TreePasses P p.1
PairsPass-front P [] p h = (tt, h.0, h.1)
PairsPass-front P (q ∷ ps) p h = let i = PairsPass-front P ps p h.2 in ((h.0, h.1, i.0), i.1, i.2)

PairsBring-refl : (c : Content) (ps : List (Tree × Tree)) → PairsBring c c ps ps
PairsBring-refl c ps = record { labels = λ P v h k. (h, k); plain = λ h. (plain_refl c, h) }

PairsBring-trans : {c d e : Content} {ps qs rs : List (Tree × Tree)} → IsLater c d → PairsBring c d ps qs → PairsBring d e qs rs → PairsBring c e ps rs
PairsBring-trans l a b =
    record { labels = λ P v h k. (let q = a.labels P v h k in b.labels P v q.0 q.1); plain = λ h. (let q = a.plain h in let r = b.plain q.1 in (plain_then l q.0 r.0, r.1)) }

-- the last pair is done
pub PairsBring-last : (c d : Content) (ps : List (Tree × Tree)) (p : Tree × Tree) → BringsLabelsOf c d p.0 p.1 → AreKnown c ps → (IsPlainIn c p.0 → IsPlainIn c p.1 → KeepsPlain c d) → PairsBring c d (ps ++ p ∷ []) ps
PairsBring-last c d ps p h known plain =
    record {
      labels = λ P v k l. (let parts = PairsPass-front P ps p l in (h.labels P v k parts.1 parts.2, parts.0));
      plain = λ q. (let parts = plain_front c ps p q in let kept = plain parts.1 parts.2 in (kept, pairs_plain ps kept known parts.0));
    }

total-push : (c : Content) (ps : List (Tree × Tree)) (p : Tree × Tree) → total c (ps ++ p ∷ []) ≡ total c ps + size (resolved c p.0) + size (resolved c p.1) + 1
total-push c [] p = omega arith
total-push c (q ∷ ps) p = omega (arith, total-push c ps p)

total-kept : {c d : Content} (ps : List (Tree × Tree)) → KeepsKnowing c d → AreKnown c ps → total d ps ≡ total c ps
total-kept [] k h = refl
total-kept (p ∷ ps) k h = omega (arith, ap size (k.trees p.0 h.0), ap size (k.trees p.1 h.1), total-kept ps k h.2)

-- pairs in worlds
pub Equates-push : (w : World) (ps : List (Tree × Tree)) (p : Tree × Tree) → Equates w ps → inst w p.0 ≡ inst w p.1 → Equates w (ps ++ p ∷ [])
Equates-push w [] p h e = (e, tt)
Equates-push w (q ∷ ps) p h e = (h.0, Equates-push w ps p h.1 e)

pub Equates-front : (w : World) (ps : List (Tree × Tree)) (p : Tree × Tree) → Equates w (ps ++ p ∷ []) → Equates w ps × (inst w p.0 ≡ inst w p.1)
Equates-front w [] p h = (tt, h.0)
Equates-front w (q ∷ ps) p h = let i = Equates-front w ps p h.1 in ((h.0, i.0), i.1)

Equates-agrees : (c : Content) (w v : World) (ps : List (Tree × Tree)) → Agrees (length c.slots) w v → AreKnown c ps → Equates w ps → Equates v ps
Equates-agrees c w v [] a k h = tt
Equates-agrees c w v (p ∷ ps) a k h = (
  inst-agrees c w v p.0 a k.0 ∙ h.0 ∙ sym (inst-agrees c w v p.1 a k.1),
  Equates-agrees c w v ps a k.2 h.1,
)

pub AllAlike-push : (c : Content) (ps : List (Tree × Tree)) (p : Tree × Tree) → AllAlike c ps → AreAlike c p.0 p.1 → AllAlike c (ps ++ p ∷ [])
AllAlike-push c [] p h e = (e, tt)
AllAlike-push c (q ∷ ps) p h e = (h.0, AllAlike-push c ps p h.1 e)

AllAlike-front : (c : Content) (ps : List (Tree × Tree)) (p : Tree × Tree) → AllAlike c (ps ++ p ∷ []) → AllAlike c ps × AreAlike c p.0 p.1
AllAlike-front c [] p h = (tt, h.0)
AllAlike-front c (q ∷ ps) p h = let i = AllAlike-front c ps p h.1 in ((h.0, i.0), i.1)

-- nothing is done
pub Reduces-refl : (c : Content) (ps : List (Tree × Tree)) → IsSound c → Reduces c c ps ps
Reduces-refl c ps s =
    record {
      continues = Continues-refl c s;
      sound = λ w z q. (z, q);
      complete = λ w z q. (unchanged c w z, q);
      alike = λ f k h q. q;
    }

-- one after the other
pub Reduces-trans : {c d e : Content} {ps qs rs : List (Tree × Tree)} → IsSound c → IsSound d → Reduces c d ps qs → Reduces d e qs rs → Reduces c e ps rs
Reduces-trans {c} {d} {e} {ps} {qs} {rs} s z a b =
    record {
      continues = Continues-trans c d e s a.continues b.continues;
      sound = λ w h q. (let k = b.sound w h q in a.sound w k.0 k.1);
      complete = λ w h q.
          let first = a.complete w h q in
          let second = b.complete first.0.world first.0.solves first.1 in (
            record {
              world = second.0.world;
              agrees = Agrees-trans (length c.slots) (length d.slots) w first.0.world second.0.world a.continues.more first.0.agrees second.0.agrees;
              solves = second.0.solves;
              names = λ f k n. second.0.names f (first.0.names f k n) n;
            },
            second.1,
          );
      alike = λ f k h q. a.alike f k (Continues-trans d e f z b.continues h) (b.alike f k h q);
    }

-- the last pair is made equal
pub Reduces-last : (c d : Content) (ps : List (Tree × Tree)) (p : Tree × Tree) → IsFair d → IsLater c d → AreKnown c ps → Knows c p.0 → Knows c p.1 → AreRelated c d p.0 p.1 → Reduces c d (ps ++ p ∷ []) ps
Reduces-last c d ps p fair later known left right r =
    record {
      continues = r.continues;
      sound = λ w h q. (let k = r.sound w h in (k.0, Equates-push w ps p q k.1));
      complete = λ w h q.
          let parts = Equates-front w ps p q in
          let ext = r.complete w h parts.1 in
          (ext, Equates-agrees c w ext.world ps ext.agrees known parts.0);
      alike = λ f k h q.
          AllAlike-push f ps p q (AreAlike-continues d f p.0 p.1 fair.sound k h fair.sides (Knows-later p.0 later left) (Knows-later p.1 later right) r.alike);
    }

-- in a store that has grown
pub all_sides_at-extended : {ts us : List Tree} (ps : List Pair) → Extends ts us → ArePairsIn ts ps → all_sides_at us ps ≡ all_sides_at ts ps
all_sides_at-extended [] e h = refl
all_sides_at-extended (p ∷ ps) e h =
    let left = e.kept p.left h.0 in
    let right = e.kept p.right h.1 in
    let rest = all_sides_at-extended ps e h.2 in
    λ i. (left i, right i) ∷ rest i

pub ArePairsIn-extended : {ts us : List Tree} (ps : List Pair) → Extends ts us → ArePairsIn ts ps → ArePairsIn us ps
ArePairsIn-extended [] e h = tt
ArePairsIn-extended (p ∷ ps) e h = (IsIn-extended e p.left h.0, IsIn-extended e p.right h.1, ArePairsIn-extended ps e h.2)

pub valid_later : {ts us : List Tree} {e f : Entries} (ps : List Pair) → IsValid ts e ps → Extends ts us → IsLater (content_of ts e) (content_of us f) → IsLawful us f → IsValid us f ps
valid_later ps v x l h =
    record {
      lawful = h;
      within = ArePairsIn-extended ps x v.within;
      known = rw (all_sides_at-extended ps x v.within) (AreKnown-later (all_sides_at _ ps) l v.known);
    }

-- the last pair
pub record LastPair (ts : List Tree) (e : Entries) (ps : List Pair) (p : Pair) : Type 0 where
  pub front : IsValid ts e ps
  pub left_in : IsIn ts p.left
  pub right_in : IsIn ts p.right
  pub left_known : Knows (content_of ts e) (tree_at ts p.left)
  pub right_known : Knows (content_of ts e) (tree_at ts p.right)

pub last_pair : (ts : List Tree) (e : Entries) (ps : List Pair) (p : Pair) → IsValid ts e (ps ++ p ∷ []) → LastPair ts e ps p
last_pair ts e ps p v =
    let w = ArePairsIn-front ts ps p v.within in
    let k = AreKnown-front (content_of ts e) (all_sides_at ts ps) (sides_at ts p) (rw (all_sides_at-push ts ps p) at v.known) in
    record {
      front = record { lawful = v.lawful; within = w.0; known = k.0 };
      left_in = w.1;
      right_in = w.2;
      left_known = k.1;
      right_known = k.2;
    }

pub total-last : (ts : List Tree) (c : Content) (ps : List Pair) (p : Pair) → total c (all_sides_at ts (ps ++ p ∷ [])) ≡ total c (all_sides_at ts ps) + size (resolved c (tree_at ts p.left)) + size (resolved c (tree_at ts p.right)) + 1
total-last ts c ps p = ap (total c) (all_sides_at-push ts ps p) ∙ total-push c (all_sides_at ts ps) (sides_at ts p)

pub record Stepped (ts us : List Tree) (e f : Entries) (ps qs : List Pair) (p : Pair) (bound : Bool) : Type 0 where
  pub valid : IsValid us f qs
  pub step : IsPairStep (content_of ts e) (content_of us f) (all_sides_at ts (ps ++ p ∷ [])) (all_sides_at us qs) bound

-- the last pair is made equal in a store that may have grown
reduces_last : (ts us : List Tree) (e f : Entries) (ps : List Pair) (p : Pair) → IsValid ts e (ps ++ p ∷ []) → Extends ts us → IsLawful us f → IsLater (content_of ts e) (content_of us f) → AreRelated (content_of ts e) (content_of us f) (tree_at ts p.left) (tree_at ts p.right) → Reduces (content_of ts e) (content_of us f) (all_sides_at ts (ps ++ p ∷ [])) (all_sides_at us ps)
reduces_last ts us e f ps p v x h l r =
    let last = last_pair ts e ps p v in
    rw (all_sides_at-push ts ps p, all_sides_at-extended ps x last.front.within)
    (Reduces-last (content_of ts e) (content_of us f) (all_sides_at ts ps) (sides_at ts p) (record { sound = h.sound; sides = lawful_sides us f h }) l last.front.known last.left_known last.right_known r)

brings_last : (ts us : List Tree) (e f : Entries) (ps : List Pair) (p : Pair) → IsValid ts e (ps ++ p ∷ []) → Extends ts us → BringsLabelsOf (content_of ts e) (content_of us f) (tree_at ts p.left) (tree_at ts p.right) → (IsPlainIn (content_of ts e) (tree_at ts p.left) → IsPlainIn (content_of ts e) (tree_at ts p.right) → KeepsPlain (content_of ts e) (content_of us f))
    → PairsBring (content_of ts e) (content_of us f) (all_sides_at ts (ps ++ p ∷ [])) (all_sides_at us ps)
brings_last ts us e f ps p v x h plain =
    let last = last_pair ts e ps p v in
    rw (all_sides_at-push ts ps p, all_sides_at-extended ps x last.front.within) (PairsBring-last (content_of ts e) (content_of us f) (all_sides_at ts ps) (sides_at ts p) h last.front.known plain)

-- a variable got a value
pub step_set : (ts us : List Tree) (e f : Entries) (ps : List Pair) (p : Pair) → IsValid ts e (ps ++ p ∷ []) → Extends ts us → IsLawful us f → IsLater (content_of ts e) (content_of us f) → unset_count (content_of us f).slots < unset_count (content_of ts e).slots → AreRelated (content_of ts e) (content_of us f) (tree_at ts p.left) (tree_at ts p.right) → BringsLabelsOf (content_of ts e) (content_of us f) (tree_at ts p.left) (tree_at ts p.right) → (IsPlainIn (content_of ts e) (tree_at ts p.left) → IsPlainIn (content_of ts e) (tree_at ts p.right) → KeepsPlain (content_of ts e) (content_of us f)) → TiesNew (content_of ts e) (content_of us f)
    → Stepped ts us e f ps ps p true
step_set ts us e f ps p v x h l less r brings plain ties =
    let last = last_pair ts e ps p v in
    record {
      valid = valid_later ps last.front x l h;
      step = record { later = l; reduces = reduces_last ts us e f ps p v x h l r; brings = brings_last ts us e f ps p v x brings plain; ties = ties; fewer = λ q. less; smaller = λ (q : true ≡ false). cc };
    }

-- the variable on one side
pub set_left : (ts us : List Tree) (e f : Entries) (p : Pair) (x : ℕ) (b : Tree) → IsLawful ts e → IsLawful us f → Knows (content_of ts e) (tree_at ts p.left) → Knows (content_of ts e) (tree_at ts p.right) → IsOpen ts e (tree_at ts p.left) x → IsClosedHead (content_of ts e) (tree_at ts p.right) b → IsSet (content_of ts e) (content_of us f) x b → AreRelated (content_of ts e) (content_of us f) (tree_at ts p.left) (tree_at ts p.right)
set_left ts us e f p x b h k kl kr o r s =
    let c = content_of ts e in
    let d = content_of us f in
    let a = tree_at ts p.left in
    let t = tree_at ts p.right in
    let j = o.bindable.of_kind in
    let has = (free_slot ts e x j o.bindable.free).kind in
    let left : AreOne d a (variable_tree j x) = AreOne-continues c d a (variable_tree j x) s.continues kl ((has, tt, refl), tt, tt) (ap (rooted c) o.same) in
    let right : AreOne d t b = AreOne-continues c d t b s.continues kr r.knows (ap (rooted c) r.same) in
    record {
      continues = s.continues;
      alike = AreAlike-for d (variable_tree j x) b a t left right (s.alike j has);
      sound = λ w z. (let q = s.sound w z in (q.0, o.worlds w q.0 ∙ q.1 ∙ sym (r.worlds w q.0)));
      complete = λ w z q. s.complete w z (sym (o.worlds w z) ∙ q ∙ r.worlds w z);
    }

-- .. brings only labels of both sides
pub set_brings : {c d : Content} {x : ℕ} {a b t : Tree} → IsClosedHead c t b → IsSet c d x b → BringsLabelsOf c d a t
set_brings r s = record { labels = λ P v h i j. s.brings.labels P v h (r.labels P h j) tt }

pub set_plain : {c d : Content} {x : ℕ} {b t : Tree} → IsClosedHead c t b → IsSet c d x b → IsPlainIn c t → KeepsPlain c d
set_plain r s h = s.plain (ap (any_label is_alias) (sym r.same) ∙ h)

pub AreRelated-turned : {c d : Content} {a b : Tree} → AreRelated c d a b → AreRelated c d b a
AreRelated-turned {c} {d} {a} {b} r =
    record {
      continues = r.continues;
      alike = AreAlike-turned d a b r.alike;
      sound = λ w z. (let q = r.sound w z in (q.0, sym q.1));
      complete = λ w z q. r.complete w z (sym q);
    }

pub set_right : (ts us : List Tree) (e f : Entries) (p : Pair) (y : ℕ) (a : Tree) → IsLawful ts e → IsLawful us f → Knows (content_of ts e) (tree_at ts p.left) → Knows (content_of ts e) (tree_at ts p.right) → IsOpen ts e (tree_at ts p.right) y → IsClosedHead (content_of ts e) (tree_at ts p.left) a → IsSet (content_of ts e) (content_of us f) y a → AreRelated (content_of ts e) (content_of us f) (tree_at ts p.left) (tree_at ts p.right)
set_right ts us e f p y a h k kl kr o r s =
    AreRelated-turned (set_left ts us e f (record { left = p.right; right = p.left }) y a h k kr kl o r s)

-- nothing that trees stand for changed
pub step_kept : (ts : List Tree) (e f : Entries) (ps : List Pair) (p : Pair) → IsValid ts e (ps ++ p ∷ []) → IsLawful ts f → KeepsKnowing (content_of ts e) (content_of ts f) → AreRelated (content_of ts e) (content_of ts f) (tree_at ts p.left) (tree_at ts p.right) → BringsLabelsOf (content_of ts e) (content_of ts f) (tree_at ts p.left) (tree_at ts p.right) → Stepped ts ts e f ps ps p false
step_kept ts e f ps p v h k r brings =
    let last = last_pair ts e ps p v in
    record {
      valid = valid_later ps last.front (Extends-refl ts) k.later h;
      step = record {
        later = k.later;
        reduces = reduces_last ts ts e f ps p v (Extends-refl ts) h k.later r;
        brings = brings_last ts ts e f ps p v (Extends-refl ts) brings (λ a b. plain_kept k);
        ties = ties_of_keeps (content_of ts e) (content_of ts f) h.sound k;
        fewer = λ (q : false ≡ true). cc;
        smaller = λ q. (omega (arith, total-kept (all_sides_at ts ps) k last.front.known, total-last ts (content_of ts e) ps p), k.unset_kept);
      };
    }

-- one tree on both sides
pub one_related : (c : Content) (a b : Tree) → IsSound c → AreOne c a b → ((w : World) → Solves c w → inst w a ≡ inst w b) → AreRelated c c a b
one_related c a b s e h =
    record {
      continues = Continues-refl c s;
      alike = AreAlike-one c a b e;
      sound = λ w z. (z, h w z);
      complete = λ w z q. unchanged c w z;
    }

-- one node on both sides
pub heads_same : (c : Content) (a b s t : Tree) → IsSound c → IsClosedHead c a s → IsClosedHead c b t → s ≡ t → AreRelated c c a b
heads_same c a b s t h p q e =
    one_related c a b h (ap (rooted c) (p.same ∙ ap (resolved c) e ∙ sym q.same)) (λ w z. p.worlds w z ∙ ap (inst w) e ∙ sym (q.worlds w z))

-- two regions on both sides
pub heads_regions : (c d : Content) (a b s t : Tree) → Knows c a → Knows c b → IsClosedHead c a s → IsClosedHead c b t → RegionsRelate c d s t → AreRelated c d a b
heads_regions c d a b s t ka kb p q r =
    let left : AreOne d a s = AreOne-continues c d a s r.continues ka p.knows (ap (rooted c) p.same) in
    let right : AreOne d b t = AreOne-continues c d b t r.continues kb q.knows (ap (rooted c) q.same) in
    record {
      continues = r.continues;
      alike = AreAlike-for d s t a b left right r.alike;
      sound = λ w z. (let k = r.narrows.sound w z in (k.0, p.worlds w k.0 ∙ k.1 ∙ sym (q.worlds w k.0)));
      complete = λ w z k. (let v = r.narrows.complete w z (sym (p.worlds w z) ∙ k ∙ q.worlds w z) in
          record { world = w; agrees = Agrees-refl (length c.slots) w; solves = v; names = λ f n u. r.narrows.names f w z n (sym (p.worlds w z) ∙ k ∙ q.worlds w z) });
    }

pub regions_bring : {c d : Content} {a b s t : Tree} → IsClosedHead c a s → IsClosedHead c b t → RegionsRelate c d s t → BringsLabelsOf c d a b
regions_bring p q r = record { labels = λ P v h i j. r.brings.labels P v h (p.labels P h i) (q.labels P h j) }

-- one variable on both sides
pub variable_same : (ts : List Tree) (e : Entries) (a b : Tree) (x y : ℕ) → IsLawful ts e → IsOpen ts e a x → IsOpen ts e b y → x ≡ y → AreRelated (content_of ts e) (content_of ts e) a b
variable_same ts e a b x y h o r same =
    let c = content_of ts e in
    let first = (free_slot ts e x o.bindable.of_kind o.bindable.free).kind in
    let second = (free_slot ts e y r.bindable.of_kind r.bindable.free).kind in
    let kinds : o.bindable.of_kind ≡ r.bindable.of_kind = some_inj o.bindable.of_kind r.bindable.of_kind (sym first ∙ ap (kind_at c) same ∙ second) in
    one_related c a b h.sound (ap (rooted c) (o.same ∙ (λ i. resolved c (variable_tree (kinds i) (same i))) ∙ sym r.same)) (λ w z. o.worlds w z ∙ ap w.tree same ∙ sym (r.worlds w z))

-- two variables that were joined
pub joined_one : (ts us : List Tree) (e f : Entries) (x y : ℕ) (j k : VariableKind) → IsLawful ts e → HasUnset e x j → HasUnset e y k → j ≢ kind.Region → j ≡ k → us ≡ ts → Joins ts e f x y → IsLawful us f × AreMadeOne (content_of ts e) (content_of us f) x y
joined_one ts us e f x y j k h hx hy no_region kinds same_store joins =
    let c = content_of ts e in
    let d = content_of ts f in
    let one = joins.one in
    let first = (free_slot ts e x j hx).kind in
    let second = (free_slot ts e y k hy).kind in
    let later = joins.joined.later in
    let high : kind_at d (max x y) ≡ Some j = at_max (λ n. kind_at d n ≡ Some j) x y (later.kinds x j first) (later.kinds y k second ∙ ap Some (sym kinds)) in
    let is : IsVariable d (label.Leaf (leaf.Variable j (max x y))) j (max x y) = record { is = refl; no_region = no_region; has = high } in
    let link : resolved d (variable_tree j (max x y)) ≡ resolved d (variable_tree j (min x y)) = resolved-variable_link d (label.Leaf (leaf.Variable j (max x y))) empty j (max x y) (min x y) joins.lawful.sound is one.linked in
    let both : resolved d (variable_tree j x) ≡ resolved d (variable_tree j y) = from_sides (λ n. resolved d (variable_tree j n)) x y (sym link) in
    let fewer = joins.joined.fewer in
    let lower : min x y < max x y = joins.lawful.sound.descends (max x y) (min x y) one.linked in
    let apart : min x y ≡ max x y → ⊥ = λ q. omega (arith, q, lower) in
    let lower_free : state_of c (min x y) ≡ Some unset = at_min (λ n. state_of c n ≡ Some unset) x y (free_slot ts e x j hx).state (free_slot ts e y k hy).state in
    let none = joined_none c d (min x y) (max x y) j joins.lawful.sound apart lower_free high no_region one.linked joins.joined.others in
    rw same_store (
      joins.lawful,
      record {
        later = later;
        fewer = omega (arith, fewer);
        continues = one.continues;
        alike = λ a b p q.
            let ea : a ≡ j = some_inj a j (sym p ∙ first) in
            let eb : b ≡ j = some_inj b j (sym q ∙ second ∙ ap Some (sym kinds)) in
            rw (ea, eb) (AreAlike-one d (variable_tree j x) (variable_tree j y) (ap (rooted d) both));
        one = λ a b p q.
            let ea : a ≡ j = some_inj a j (sym p ∙ first) in
            let eb : b ≡ j = some_inj b j (sym q ∙ second ∙ ap Some (sym kinds)) in
            rw (ea, eb) (ap (rooted d) both);
        brings = joins.brings;
        ties = TiesNew-same c d joins.joined.slots;
        aliases = λ t q. aliases_continue c d t h.sound joins.lawful.sound one.continues none q;
        plain = joined_plain c d (min x y) (max x y) j h.sound joins.lawful.sound one.continues apart lower_free high no_region one.linked joins.joined.others;
        sound = λ w z. (let q = one.narrows.sound w z in (q.0, from_sides w.tree x y q.1));
        complete = λ w z q. record {
          world = w;
          agrees = Agrees-refl (length c.slots) w;
          solves = one.narrows.complete w z (to_sides w.tree x y q);
          names = λ f n u. one.narrows.names f w z n (to_sides w.tree x y q);
        };
      },
    )

-- .. of which one got the other as its value
pub set_one : {c d : Content} {x y : ℕ} (k : VariableKind) (u : ℕ) → kind_at c y ≡ Some k → universe_of c x ≡ Some u → NamesAll region_level u (resolved c (variable_tree k y)) → closed_aliases (resolved c (variable_tree k y)) ≡ 0 → IsPlainIn c (variable_tree k y) → IsSet c d x (variable_tree k y) → AreMadeOne c d x y
set_one {c} {d} {x} {y} k u has universe names none plain s =
    record {
      later = s.later;
      fewer = s.fewer;
      continues = s.continues;
      alike = λ a b p q. (let e : b ≡ k = some_inj b k (sym q ∙ has) in rw e (s.alike a p));
      one = λ a b p q. (let e : b ≡ k = some_inj b k (sym q ∙ has) in rw e (s.exact u a universe p names));
      brings = record { labels = λ P v h. s.brings.labels P v h (v k y, tt) tt };
      ties = s.ties;
      aliases = s.aliases none;
      plain = s.plain plain;
      sound = λ w z. s.sound w z;
      complete = λ w z q. s.complete w z q;
    }

pub AreMadeOne-turned : {c d : Content} {x y : ℕ} → AreMadeOne c d x y → AreMadeOne c d y x
AreMadeOne-turned {c} {d} {x} {y} m =
    record {
      later = m.later;
      fewer = m.fewer;
      continues = m.continues;
      alike = λ a b p q. AreAlike-turned d (variable_tree b x) (variable_tree a y) (m.alike b a q p);
      one = λ a b p q. sym (m.one b a q p);
      brings = m.brings;
      ties = m.ties;
      aliases = m.aliases;
      plain = m.plain;
      sound = λ w z. (let q = m.sound w z in (q.0, sym q.1));
      complete = λ w z q. m.complete w z (sym q);
    }

-- .. are related
pub variables_related : (ts us : List Tree) (e f : Entries) (a b : Tree) (x y : ℕ) → Knows (content_of ts e) a → Knows (content_of ts e) b → IsOpen ts e a x → IsOpen ts e b y → AreMadeOne (content_of ts e) (content_of us f) x y → AreRelated (content_of ts e) (content_of us f) a b
variables_related ts us e f a b x y ka kb o r m =
    let c = content_of ts e in
    let d = content_of us f in
    let j = o.bindable.of_kind in
    let k = r.bindable.of_kind in
    let first = (free_slot ts e x j o.bindable.free).kind in
    let second = (free_slot ts e y k r.bindable.free).kind in
    let left : AreOne d a (variable_tree j x) = AreOne-continues c d a (variable_tree j x) m.continues ka ((first, tt, refl), tt, tt) (ap (rooted c) o.same) in
    let right : AreOne d b (variable_tree k y) = AreOne-continues c d b (variable_tree k y) m.continues kb ((second, tt, refl), tt, tt) (ap (rooted c) r.same) in
    record {
      continues = m.continues;
      alike = AreAlike-for d (variable_tree j x) (variable_tree k y) a b left right (m.alike j k first second);
      sound = λ w z. (let q = m.sound w z in (q.0, o.worlds w q.0 ∙ q.1 ∙ sym (r.worlds w q.0)));
      complete = λ w z q. m.complete w z (sym (o.worlds w z) ∙ q ∙ r.worlds w z);
    }

-- two variables made one, or one variable twice
pub step_variables : (ts us : List Tree) (e f : Entries) (ps : List Pair) (p : Pair) (x y : ℕ) (bound : Bool) → IsValid ts e (ps ++ p ∷ []) → Extends ts us → IsOpen ts e (tree_at ts p.left) x → IsOpen ts e (tree_at ts p.right) y → VariablesRelate ts us e f x y bound → Stepped ts us e f ps ps p bound
step_variables ts us e f ps p x y true v ext o q r =
    let m = r.made refl in
    let last = last_pair ts e ps p v in
    step_set ts us e f ps p v ext m.0 m.1.later m.1.fewer (variables_related ts us e f (tree_at ts p.left) (tree_at ts p.right) x y last.left_known last.right_known o q m.1) (brings-of (tree_at ts p.left) (tree_at ts p.right) m.1.brings) (λ a b. m.1.plain) m.1.ties
step_variables ts us e f ps p x y false v ext o q r =
    let same = r.same refl in
    let store : us ≡ ts = same.0 in
    let is : f ≡ e = same.1 in
    rw (store, is) (step_kept ts e e ps p v v.lawful (KeepsKnowing-refl (content_of ts e)) (variable_same ts e (tree_at ts p.left) (tree_at ts p.right) x y v.lawful o q same.2) (brings-of (tree_at ts p.left) (tree_at ts p.right) (brings-refl (content_of ts e))))

-- the children of two nodes
pub pushed_none : (ts : List Tree) (ps : List Pair) (a b : Tree) (i : ℕ) → IsRow a → IsRow b → i ≡ row_length a → row_length a ≡ row_length b → Pushed ts ps ps a b i
pushed_none ts ps a b i ra rb ia ib =
    let ea : row_from i a ≡ empty = rw ia (row_from-end a ra) in
    let eb : row_from i b ≡ empty = rw (ia, ib) (row_from-end b rb) in
    record {
      within = λ h. h;
      known = λ c ka kb h. h;
      sound = λ w h. (h, ap (inst w) (ea ∙ sym eb));
      complete = λ w h q. h;
      alike = λ c h. (h, rw (ea, eb) (AreAlike-itself c empty));
      weight = λ c. omega (arith, ap row_length ea, ap (λ t. size (resolved c t)) ea, ap (λ t. size (resolved c t)) eb, ap size (resolved-empty c));
      labels = λ P i j h. h;
      plain = λ c k l h. h;
      below = λ j n h. (h, λ l. rw (ea, eb) (one-itself j empty));
    }

pub pushed_more : (ts : List Tree) (ps qs rs : List Pair) (a b : Tree) (i j : ℕ) (x y : NodeId) → Pushed ts ps qs a b j → j ≡ i + 1 → i < row_length a → i < row_length b → IsIn ts x → IsIn ts y → tree_at ts x ≡ row_at a i → tree_at ts y ≡ row_at b i → rs ≡ qs ++ record { left = x; right = y } ∷ [] → Pushed ts ps rs a b i
pushed_more ts ps qs rs a b i j x y h next la lb ix iy ex ey e =
    let p : Pair = record { left = x; right = y } in
    let da = row_from-step a i la in
    let db = row_from-step b i lb in
    record {
      within = λ w. rw e (ArePairsIn-push ts qs p (h.within w) ix iy);
      known = λ c ka kb w.
          let kx : Knows c (tree_at ts x) = rw ex (Knows-row_at c a i ka) in
          let ky : Knows c (tree_at ts y) = rw ey (Knows-row_at c b i kb) in
          rw (e, all_sides_at-push ts qs p) (AreKnown-push c (all_sides_at ts qs) (sides_at ts p) (h.known c ka kb w) kx ky);
      sound = λ w z.
          let q : Equates w (all_sides_at ts qs ++ sides_at ts p ∷ []) = rw (e, all_sides_at-push ts qs p) at z in
          let parts = Equates-front w (all_sides_at ts qs) (sides_at ts p) q in
          let rest = h.sound w parts.0 in
          let tail : inst w (row_from (i + 1) a) ≡ inst w (row_from (i + 1) b) = rw next at rest.1 in
          (rest.0, ap (inst w) da ∙ (λ k. more (head_one w parts.1 k) (tail k)) ∙ sym (ap (inst w) db));
      complete = λ w z q.
          let split : more (inst w (row_at a i)) (inst w (row_from (i + 1) a)) ≡ more (inst w (row_at b i)) (inst w (row_from (i + 1) b)) = sym (ap (inst w) da) ∙ q ∙ ap (inst w) db in
          let parts = more_eq _ _ _ _ split in
          let tail : inst w (row_from j a) ≡ inst w (row_from j b) = rw next parts.1 in
          rw (e, all_sides_at-push ts qs p) (Equates-push w (all_sides_at ts qs) (sides_at ts p) (h.complete w z tail) (ap (inst w) ex ∙ parts.0 ∙ sym (ap (inst w) ey)));
      alike = λ c z.
          let q : AllAlike c (all_sides_at ts qs ++ sides_at ts p ∷ []) = rw (e, all_sides_at-push ts qs p) at z in
          let parts = AllAlike-front c (all_sides_at ts qs) (sides_at ts p) q in
          let rest = h.alike c parts.0 in
          let tail : AreAlike c (row_from (i + 1) a) (row_from (i + 1) b) = rw next at rest.1 in
          let first : AreAlike c (row_at a i) (row_at b i) = rw (ex, ey) at parts.1 in
          (rest.0, rw (da, db) (AreAlike-more c (row_at a i) (row_from (i + 1) a) (row_at b i) (row_from (i + 1) b) first tail));
      weight = λ c.
          omega (arith, ap (λ z. total c (all_sides_at ts z)) e, total-last ts c qs p, rw next at (h.weight c), ap row_length da, ap (λ t. size (resolved c t)) da, ap (λ t. size (resolved c t)) db, ap size (resolved-more c (row_at a i) (row_from (i + 1) a)), ap size (resolved-more c (row_at b i) (row_from (i + 1) b)), ap (λ t. size (resolved c t)) ex, ap (λ t. size (resolved c t)) ey);
      labels = λ P ka kb w.
          let kx : TreePasses P (tree_at ts x) = rw ex (passes-row_at (λ z. P z ≡ true) a i ka) in
          let ky : TreePasses P (tree_at ts y) = rw ey (passes-row_at (λ z. P z ≡ true) b i kb) in
          rw (e, all_sides_at-push ts qs p) (PairsPass-push P (all_sides_at ts qs) (sides_at ts p) (h.labels P ka kb w) kx ky);
      plain = λ c ka kb w.
          let kx : IsPlainIn c (tree_at ts x) = rw ex (plain_row_at c a i la ka) in
          let ky : IsPlainIn c (tree_at ts y) = rw ey (plain_row_at c b i lb kb) in
          rw (e, all_sides_at-push ts qs p) (plain_push c (all_sides_at ts qs) (sides_at ts p) (h.plain c ka kb w) kx ky);
      below = λ k n z.
          let q : OneBelow k n (all_sides_at ts qs ++ sides_at ts p ∷ []) = rw (e, all_sides_at-push ts qs p) at z in
          let parts = below_front k n (all_sides_at ts qs) (sides_at ts p) q in
          let rest = h.below k n parts.0 in (
            rest.0,
            λ l.
                let large : judged_size k (row_from i a) ≡ judged_size k (row_at a i) + judged_size k (row_from (i + 1) a) + 1 = ap (judged_size k) da ∙ judged-more k (row_at a i) (row_from (i + 1) a) in
                let tail : JudgesOne k (row_from (i + 1) a) (row_from (i + 1) b) = rw next at (rest.1 (omega (arith, large, l, ap (λ m. judged_size k (row_from m a)) next))) in
                let first : JudgesOne k (row_at a i) (row_at b i) = rw (ex, ey) at (parts.1 (omega (arith, large, l, ap (judged_size k) ex))) in
                rw (da, db) (one-more k (row_at a i) (row_from (i + 1) a) (row_at b i) (row_from (i + 1) b) first tail),
          );
    }
  where
    head_one : (w : World) → inst w (tree_at ts x) ≡ inst w (tree_at ts y) → inst w (row_at a i) ≡ inst w (row_at b i)
    head_one w q = sym (ap (inst w) ex) ∙ q ∙ ap (inst w) ey

    more_eq : (r s t u : Tree) → more r s ≡ more t u → (r ≡ t) × (s ≡ u)
    more_eq r s t u q = (cc, cc)

pub Knows-children : (c : Content) (t : Tree) → Knows c t → Knows c (children t)
Knows-children c empty h = tt
Knows-children c (more a b) h = tt
Knows-children c (node l x) h = h.1

pub not_infer : (t : Tree) (l : Label) → t ≡ node l (children t) → (IsInfer t → ⊥) → infer_of l ≡ None
not_infer t l e h = by_case (infer_of l) refl
  where
    by_case : (o : Option ℕ) → infer_of l ≡ o → infer_of l ≡ None
    by_case None q = q
    by_case (Some n) q = absurd (h (rw e (n, q)))

inst-is : (w : World) (t : Tree) (l : Label) → t ≡ node l (children t) → variable_of l ≡ None → inst w t ≡ node (renamed w l) (inst w (children t))
inst-is w t l is e = ap (inst w) is ∙ inst-node w l (children t) e

node_eq : (l m : Label) (a b : Tree) → node l a ≡ node m b → (l ≡ m) × (a ≡ b)
node_eq l m a b e = (cc, cc)

-- two nodes, whose children are left
pub step_pushed : (ts : List Tree) (e : Entries) (ps qs : List Pair) (p : Pair) (a b : NodeId) (l m : Label) → IsValid ts e (ps ++ p ∷ []) → IsClosedHead (content_of ts e) (tree_at ts p.left) (tree_at ts a) → IsClosedHead (content_of ts e) (tree_at ts p.right) (tree_at ts b) → tree_at ts a ≡ node l (children (tree_at ts a)) → tree_at ts b ≡ node m (children (tree_at ts b)) → l ≡ m → is_free_region l ≡ false → Pushed ts ps qs (children (tree_at ts a)) (children (tree_at ts b)) 0 → Stepped ts ts e e ps qs p false
step_pushed ts e ps qs p a b l m v ha hb ia ib same not_free k =
    let c = content_of ts e in
    let last = last_pair ts e ps p v in
    let alone : variable_of l ≡ None = alone_label l (not_infer (tree_at ts a) l ia ha.no_variable) not_free in
    let other : variable_of m ≡ None = rw (← same) alone in
    let sa = (node_step c (tree_at ts a) l (ap label_of ia) (not_infer (tree_at ts a) l ia ha.no_variable) ha.knows).is in
    let sb = (node_step c (tree_at ts b) m (ap label_of ib) (not_infer (tree_at ts b) m ib hb.no_variable) hb.knows).is in
    record {
      valid = record {
        lawful = v.lawful;
        within = k.within last.front.within;
        known = k.known c (Knows-children c (tree_at ts a) ha.knows) (Knows-children c (tree_at ts b) hb.knows) last.front.known;
      };
      step = record {
        later = IsLater-refl c;
        reduces = rw (all_sides_at-push ts ps p) (record {
          continues = Continues-refl c v.lawful.sound;
          sound = λ w z q.
              let parts = k.sound w q in
              (z, Equates-push w (all_sides_at ts ps) (sides_at ts p) parts.0 (ha.worlds w z ∙ inst-is w (tree_at ts a) l ia alone ∙ (λ i. node (renamed w (same i)) (parts.1 i)) ∙ sym (inst-is w (tree_at ts b) m ib other) ∙ sym (hb.worlds w z)));
          complete = λ w z q.
              let parts = Equates-front w (all_sides_at ts ps) (sides_at ts p) q in
              let nodes : node (renamed w l) (inst w (children (tree_at ts a))) ≡ node (renamed w m) (inst w (children (tree_at ts b))) = sym (inst-is w (tree_at ts a) l ia alone) ∙ sym (ha.worlds w z) ∙ parts.1 ∙ hb.worlds w z ∙ inst-is w (tree_at ts b) m ib other in
              (unchanged c w z, k.complete w parts.0 (node_eq _ _ _ _ nodes).1);
          alike = λ f h next q.
              let parts = k.alike f q in
              let inner : AreAlike f (tree_at ts a) (tree_at ts b) = AreAlike-children f (tree_at ts a) (tree_at ts b) l (ap label_of ia) (ap label_of ib ∙ ap Some (sym same)) (infer_of_none l alone) parts.1 in
              let left : AreOne f (tree_at ts p.left) (tree_at ts a) = AreOne-continues c f (tree_at ts p.left) (tree_at ts a) next last.left_known ha.knows (ap (rooted c) ha.same) in
              let right : AreOne f (tree_at ts p.right) (tree_at ts b) = AreOne-continues c f (tree_at ts p.right) (tree_at ts b) next last.right_known hb.knows (ap (rooted c) hb.same) in
              AllAlike-push f (all_sides_at ts ps) (sides_at ts p) parts.0 (AreAlike-for f (tree_at ts a) (tree_at ts b) (tree_at ts p.left) (tree_at ts p.right) left right inner);
        });
        brings = rw (all_sides_at-push ts ps p) (record {
          labels = λ P f h q.
              let parts = PairsPass-front P (all_sides_at ts ps) (sides_at ts p) q in
              let left = passes-children (λ z. P z ≡ true) (tree_at ts a) (ha.labels P h parts.1) in
              let right = passes-children (λ z. P z ≡ true) (tree_at ts b) (hb.labels P h parts.2) in
              (h, k.labels P left right parts.0);
          plain = λ q.
              let parts = plain_front c (all_sides_at ts ps) (sides_at ts p) q in
              let left = (neither (is_alias l) _ (ap (any_label is_alias) (sym (ha.same ∙ sa)) ∙ parts.1)).1 in
              let right = (neither (is_alias m) _ (ap (any_label is_alias) (sym (hb.same ∙ sb)) ∙ parts.2)).1 in
              (plain_refl c, k.plain c left right parts.0);
        });
        ties = TiesNew-same c c refl;
        fewer = λ (q : false ≡ true). cc;
        smaller = λ q. (omega (arith, k.weight c, total-last ts c ps p, ap size ha.same, ap size hb.same, ap size sa, ap size sb), refl);
      };
    }

-- one error in two results
pub err_of : {A B E : Type 0} (e f : E) → ◌≡◌ {A = Result A E} (Err e) (Err f) → ◌≡◌ {A = Result B E} (Err e) (Err f)
err_of e f q = let k : e ≡ f = cc in ap Err k

-- the loops
pub running_start : (c : Content) (ps : List (Tree × Tree)) → IsSound c → Running c c ps ps
running_start c ps s = record { later = IsLater-refl c; reduces = Reduces-refl c ps s; brings = PairsBring-refl c ps; ties = TiesNew-same c c refl; not_more = omega arith }

pub running_step : {c d e : Content} {ps qs rs : List (Tree × Tree)} {b : Bool} → IsSound c → IsSound d → Running c d ps qs → IsPairStep d e qs rs b → b ≡ false → Running c e ps rs
running_step {c} {d} {e} s z r k f =
    record { later = IsLater-trans r.later k.later; reduces = Reduces-trans s z r.reduces k.reduces; brings = PairsBring-trans r.later r.brings k.brings; ties = TiesNew-trans c d e k.reduces.continues r.ties k.ties; not_more = omega (arith, r.not_more, (k.smaller f).1) }

pub running_bound : {c d e : Content} {ps qs rs : List (Tree × Tree)} {b : Bool} → IsSound c → IsSound d → Running c d ps qs → IsPairStep d e qs rs b → b ≡ true → IsPairRun c e ps rs true
running_bound {c} {d} {e} s z r k f =
    record {
      later = IsLater-trans r.later k.later;
      reduces = Reduces-trans s z r.reduces k.reduces;
      brings = PairsBring-trans r.later r.brings k.brings;
      ties = TiesNew-trans c d e k.reduces.continues r.ties k.ties;
      fewer = λ q. omega (arith, r.not_more, k.fewer f);
      ends = λ (q : true ≡ false). cc;
    }

pub running_end : {c d : Content} {ps qs : List (Tree × Tree)} → Running c d ps qs → qs ≡ [] → IsPairRun c d ps qs false
running_end r e = record { later = r.later; reduces = r.reduces; brings = r.brings; ties = r.ties; fewer = λ (q : false ≡ true). cc; ends = λ q. e }

pub all_step : {c d e : Content} {ps qs rs : List (Tree × Tree)} {b : Bool} → IsSound c → IsSound d → Running c d ps qs → IsPairRun d e qs rs b → b ≡ true → Running c e ps rs
all_step {c} {d} {e} s z r k f =
    record { later = IsLater-trans r.later k.later; reduces = Reduces-trans s z r.reduces k.reduces; brings = PairsBring-trans r.later r.brings k.brings; ties = TiesNew-trans c d e k.reduces.continues r.ties k.ties; not_more = omega (arith, r.not_more, k.fewer f) }

pub all_done : {c d e : Content} {ps qs rs : List (Tree × Tree)} {b : Bool} → IsSound c → IsSound d → Running c d ps qs → IsPairRun d e qs rs b → b ≡ false → Reduces c e ps []
all_done s z r k f = let end = k.ends f in rw end at (Reduces-trans s z r.reduces k.reduces)

pub all_bring : {c d e : Content} {ps qs rs : List (Tree × Tree)} {b : Bool} → Running c d ps qs → IsPairRun d e qs rs b → b ≡ false → PairsBring c e ps []
all_bring r k f = let end = k.ends f in rw end at (PairsBring-trans r.later r.brings k.brings)

pub all_tie : {c d e : Content} {ps qs rs : List (Tree × Tree)} {b : Bool} → Running c d ps qs → IsPairRun d e qs rs b → TiesNew c e
all_tie {c} {d} {e} r k = TiesNew-trans c d e k.reduces.continues r.ties k.ties

-- one pair, of which nothing is left
pub pair_related : {c d : Content} {a b : Tree} → IsSound d → Reduces c d ((a, b) ∷ []) [] → AreRelated c d a b
pair_related {c} {d} {a} {b} s r =
    record {
      continues = r.continues;
      alike = (r.alike d s (Continues-refl d s) tt).0;
      sound = λ w z. (let q = r.sound w z tt in (q.0, q.1.0));
      complete = λ w z q. (r.complete w z (q, tt)).0;
    }

-- .. where relating succeeds, and what its end leaves are the entries that it came to
pub if_related : {A E : Type 0} (ts us : List Tree) (e m f : Entries) (a b : Tree) (r : Result A E) → OnOk r (f ≡ m) → OnOk r (IsLawful us m) → OnOk r (Reduces (content_of ts e) (content_of us m) ((a, b) ∷ []) []) → OnOk r (AreRelated (content_of ts e) (content_of us f) a b)
if_related ts us e m f a b (Ok v) same h k = rw same (pair_related h.sound k)
if_related ts us e m f a b (Err x) same h k = tt

pub if_brings : {A E : Type 0} (ts us : List Tree) (e m f : Entries) (a b : Tree) (r : Result A E) → OnOk r (f ≡ m) → OnOk r (PairsBring (content_of ts e) (content_of us m) ((a, b) ∷ []) []) → OnOk r (BringsLabelsOf (content_of ts e) (content_of us f) a b)
if_brings ts us e m f a b (Ok v) same k = rw same (record { labels = λ P v h i j. (k.labels P v h (i, j, tt)).0 })
if_brings ts us e m f a b (Err x) same k = tt

pub if_plain : {A E : Type 0} (ts us : List Tree) (e m f : Entries) (a b : Tree) (r : Result A E) → OnOk r (f ≡ m) → OnOk r (PairsBring (content_of ts e) (content_of us m) ((a, b) ∷ []) []) → OnOk r (IsPlainIn (content_of ts e) a → IsPlainIn (content_of ts e) b → KeepsPlain (content_of ts e) (content_of us f))
if_plain ts us e m f a b (Ok v) same k = rw same (λ i j. (k.plain ((i, j), tt)).0)
if_plain ts us e m f a b (Err x) same k = tt

pub if_ties : {A E : Type 0} (ts us : List Tree) (e m f : Entries) (r : Result A E) → OnOk r (f ≡ m) → OnOk r (TiesNew (content_of ts e) (content_of us m)) → OnOk r (TiesNew (content_of ts e) (content_of us f))
if_ties ts us e m f (Ok v) same k = rw same k
if_ties ts us e m f (Err x) same k = tt
