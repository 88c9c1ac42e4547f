-- Parts of a term that a value is made for, in a table that grows.
use Rattle.std.proofs.Common.{◌≡◌, ℕ, zero, suc, ◌+◌, ◌<◌, length, true, Option, Some, refl, sym, ap, ◌∙◌, subst, arith}
use Rattle.nts_model.specs.declared.labels.Label.{Label}
use Rattle.nts_model.specs.Terms.Trees.{Tree, empty, more, node, size, children, row_length, row_at, binders, IsClosedUnder}
use Rattle.nts_model.specs.Tables.Contents.{Content, known, state_of}
use Rattle.nts_model.specs.declared.labels.VariableKind.TheVariants as kind
use Rattle.nts_model.specs.Tables.Resolving.{Knows, IsSound, resolved}
use Rattle.nts_model.specs.Tables.Levels.{NamesAll, term_level}
use Rattle.nts_model.specs.Tables.Worlds.{World, inst, renamed}
use Rattle.nts_model.proofs.Tables.Instances.{inst-node, inst-agrees, Agrees-trans}
use Rattle.nts_model.proofs.Tables.Fitting.{IsClosed-inst}
use Rattle.nts_model.proofs.Tables.Levelled.{NamesAll-falls}
use Rattle.nts_model.proofs.Tables.Refuting.{closed-node}
use Rattle.nts_model.proofs.Tables.Held.{AreOne-continues, Continues-refl, Continues-trans}
use Rattle.nts_model.proofs.Tables.Alike.{AreAlike-continues}
use Rattle.nts_model.proofs.Tables.Resolved.{Knows-row_at, flag_le}
use Rattle.nts_model.proofs.Tables.Bringing.{passes-before, passes-row_at, passes-children}
use Rattle.nts_model.proofs.Tables.Slots.{field_below}
use Rattle.nts_unify.specs.Changing.{KeepsKnowing}
use Rattle.nts_relating.specs.Parts.{IsVariableValue, IsGeneralizedNode, WalkGrows, IsPartOf, inner}
use Rattle.nts_relating.specs.Relating.{Generalized, Blocks}
use Rattle.nts_unify.proofs.Keeping.{Knows-later, KeepsKnowing-refl, KeepsKnowing-trans}
use Rattle.nts_relating.proofs.GenLemmas.{IsFair, unchanged, named_for}
use Rattle.nts_relating.proofs.PairLemmas.{Knows-children}
use Rattle.nts_relating.proofs.RefusalLemmas.{closed_at, size_at, flag_one}

-- the values that a table has stay
values_kept : {c d : Content} → IsSound c → KeepsKnowing c d → (n : ℕ) (t : Tree) → state_of c n ≡ Some (known t) → state_of d n ≡ Some (known t)
values_kept {c} {d} s k n t e = k.states n (field_below (λ z. z.state) c n (known t) e) (λ r. (s.fits n t kind.Region e r).1 refl) ∙ e

-- growing
pub WalkGrows-refl : (c : Content) (x u : ℕ) (t : Tree) → IsSound c → WalkGrows c c x u t
WalkGrows-refl c x u t s =
    record { keeps = KeepsKnowing-refl c; continues = Continues-refl c s; own = refl; labels = λ P v p q. p; labels_before = λ P p. p; sound = λ w z. z; complete = λ w z q. unchanged c w z }

pub WalkGrows-trans : {c d e : Content} {x u : ℕ} {t : Tree} → IsSound c → Knows c t → WalkGrows c d x u t → WalkGrows d e x u t → WalkGrows c e x u t
WalkGrows-trans {c} {d} {e} {x} {u} {t} s k g h =
    record {
      keeps = KeepsKnowing-trans g.keeps h.keeps;
      continues = Continues-trans c d e s g.continues h.continues;
      own = h.own ∙ g.own;
      labels = λ P v p q. h.labels P v (g.labels P v p q) q;
      labels_before = λ P p. g.labels_before P (h.labels_before P p);
      sound = λ w z. g.sound w (h.sound w z);
      complete = λ w z names.
          let first = g.complete w z names in
          let same : inst first.world t ≡ inst w t = inst-agrees c w first.world t first.agrees k in
          let second = h.complete first.world first.solves (rw same names) in
          record {
            world = second.world;
            agrees = Agrees-trans (length c.slots) (length d.slots) w first.world second.world g.continues.more first.agrees second.agrees;
            solves = second.solves;
            names = λ f q n. second.names f (first.names f q n) (rw same n);
          };
    }

-- parts
pub part_whole : (c : Content) (u b : ℕ) (t : Tree) → Knows c t → IsPartOf c u b t b t
part_whole c u b t k = record { knows = k; labels = λ P p q. q; names = λ f w z n. n; closed = λ w z h. h; smaller = λ w z. omega arith }

named_child : (f : Label → Option ℕ) (w : World) (u : ℕ) (r : Tree) (i : ℕ) → i < row_length r → NamesAll f u (inst w r) → NamesAll f u (inst w (row_at r i))
named_child f w u empty i h k = absurd (omega arith)
named_child f w u (more a b) zero h k = k.0
named_child f w u (more a b) (suc i) h k = named_child f w u b i (omega arith) k.1
named_child f w u (node l c) i h k = absurd (omega arith)

pub part_child : {c : Content} {u n b i : ℕ} {whole t a : Tree} → IsPartOf c u n whole b t → IsGeneralizedNode u b t → i < row_length (children t) → a ≡ row_at (children t) i → IsPartOf c u n whole (inner b t) a
part_child {c} {u} {n} {b} {i} {whole} {t} {a} p m less is =
    let l = m.label in
    let r = children t in
    let under : inner b t ≡ b + binders l = ap (inner b) m.is in
    let at = λ (w : World). ap (inst w) m.is ∙ inst-node w l r m.alone in
    rw (is, under) (record {
      knows = Knows-row_at c r i (Knows-children c t p.knows);
      labels = λ P h k. passes-row_at (λ z. P z ≡ true) r i (passes-children (λ z. P z ≡ true) t (p.labels P h k));
      names = λ f w z k.
          let here : NamesAll f u (node (renamed w l) (inst w r)) = subst (NamesAll f u) (at w) (p.names f w z k) in
          named_child f w u r i less here.1;
      closed = λ w z k.
          let here : IsClosedUnder b (inst w (node l r)) = subst (λ y. IsClosedUnder b (inst w y)) m.is (p.closed w z k) in
          closed_at w (b + binders l) r i less (closed-node w b l r m.alone here).1;
      smaller = λ w z. (let s = p.smaller w z in omega (arith, s, size_at w r i less, ap size (at w), flag_le (row_at r i)));
    })

pub part_value : {c : Content} {u n b : ℕ} {whole t v : Tree} → IsPartOf c u n whole b t → IsVariableValue c t v → IsPartOf c u n whole 0 v
part_value {c} {u} {n} {b} {whole} {t} {v} p h =
    record {
      knows = h.knows;
      labels = λ P k q. h.labels P k;
      names = λ f w z k. subst (NamesAll f u) (h.worlds w z) (p.names f w z k);
      closed = λ w z k. IsClosed-inst c w 0 v z.fitting h.knows h.closed;
      smaller = λ w z. (let s = p.smaller w z in omega (arith, s, ap size (h.worlds w z), flag_le v, flag_one t h.infer));
    }

pub part_later : {c d : Content} {x u n b : ℕ} {whole t : Tree} → WalkGrows c d x u whole → IsPartOf c u n whole b t → IsPartOf d u n whole b t
part_later {c} {d} {x} {u} {n} {b} {whole} {t} g p =
    record {
      knows = Knows-later t g.keeps.later p.knows;
      labels = λ P h k. p.labels P (g.labels_before P h) k;
      names = λ f w z. p.names f w (g.sound w z);
      closed = λ w z. p.closed w (g.sound w z);
      smaller = λ w z. p.smaller w (g.sound w z);
    }

pub value_later : {c d : Content} {x u : ℕ} {whole t v : Tree} → WalkGrows c d x u whole → Knows c t → IsVariableValue c t v → IsVariableValue d t v
value_later {c} {d} {x} {u} {whole} {t} {v} g k h =
    record {
      infer = h.infer;
      sort = h.sort;
      own_sort = h.own_sort;
      value_sort = h.value_sort;
      knows = Knows-later v g.keeps.later h.knows;
      same = g.keeps.trees t k ∙ h.same ∙ sym (g.keeps.trees v h.knows);
      lower = h.lower;
      closed = h.closed;
      labels = λ P k. h.labels P (g.labels_before P k);
      worlds = λ w z. h.worlds w (g.sound w z);
    }

-- what refuses a part refuses the whole
pub blocks_whole : {c : Content} {x u n b : ℕ} {whole t : Tree} → IsPartOf c u n whole b t → Blocks c x u b t → Blocks c x u n whole
blocks_whole p h =
    record { none = λ w z names below. (let inside = h.none w z (p.names term_level w z names) (p.closed w z below) in let s = p.smaller w z in omega (arith, inside, s)) }

-- .. and what refuses it later refuses it before
pub blocks_before : {c d : Content} {x u n : ℕ} {t : Tree} → WalkGrows c d x u t → x < length c.slots → Knows c t → Blocks d x u n t → Blocks c x u n t
blocks_before {c} {d} {x} {u} {n} {t} g within k h =
    record {
      none = λ w z names below.
          let ext = g.complete w z names in
          let same : inst ext.world t ≡ inst w t = inst-agrees c w ext.world t ext.agrees k in
          let inside = h.none ext.world ext.solves (rw same names) (rw same below) in
          omega (arith, inside, ap size same, ap size (ext.agrees.trees x within));
    }

-- what stands for a part
pub grows_by : {c d : Content} {x u n b : ℕ} {whole t r : Tree} → IsSound c → IsPartOf c u n whole b t → Generalized c d x u b t r → WalkGrows c d x u whole
grows_by {c} {d} s p g =
    record {
      keeps = g.keeps;
      continues = g.continues;
      own = g.own;
      labels = λ P v h k. (g.labels P v h (p.labels P h k)).0;
      labels_before = λ P h. passes-before (λ z. P z ≡ true) c d (λ n t e. values_kept s g.keeps n t e) g.continues h;
      sound = λ w z. (g.sound w z).0;
      complete = λ w z names. named_for (λ f n. p.names f w z n) (g.complete w z (p.names term_level w z names));
    }

pub stands_now : {c d : Content} {x u b : ℕ} {t r : Tree} → IsSound c → IsSound d → Knows c t → Generalized c d x u b t r → Generalized d d x u b t r
stands_now {c} {d} {x} {u} {b} {t} {r} before s k g =
    record {
      keeps = KeepsKnowing-refl d;
      knows = g.knows;
      rank = g.rank;
      fits = g.fits;
      like = g.like;
      lacks = g.lacks;
      continues = Continues-refl d s;
      own = refl;
      named = g.named;
      named_regions = g.named_regions;
      closed = g.closed;
      patched = g.patched;
      clean = g.clean;
      alike = g.alike;
      exact = λ n. g.exact (rw (g.keeps.trees t k) at n);
      labels = λ P v p q. (p, (g.labels P v (passes-before (λ z. P z ≡ true) c d (λ n t e. values_kept before g.keeps n t e) g.continues p) q).1);
      sound = λ w z. (z, (g.sound w z).1);
      complete = λ w z q. unchanged d w z;
    }

pub stands_later : {c d : Content} {x u b : ℕ} {whole t r : Tree} → IsFair c → IsSound d → Knows c t → WalkGrows c d x u whole → Generalized c c x u b t r → Generalized d d x u b t r
stands_later {c} {d} {x} {u} {b} {whole} {t} {r} fair s k h g =
    let old : resolved d r ≡ resolved c r = h.keeps.trees r g.knows in
    record {
      keeps = KeepsKnowing-refl d;
      knows = Knows-later r h.keeps.later g.knows;
      rank = g.rank;
      fits = g.fits;
      like = g.like;
      lacks = rw old g.lacks;
      continues = Continues-refl d s;
      own = refl;
      named = NamesAll-falls c d u r h.continues.falls g.knows g.named;
      named_regions = g.named_regions;
      closed = g.closed;
      patched = g.patched;
      clean = rw old g.clean;
      alike = AreAlike-continues c d r t fair.sound s h.continues fair.sides g.knows k g.alike;
      exact = λ n. AreOne-continues c d r t h.continues g.knows k (g.exact (rw (h.keeps.trees t k) at n));
      labels = λ P v p q. (p, (g.labels P v (h.labels_before P p) q).1);
      sound = λ w z. (z, (g.sound w (h.sound w z)).1);
      complete = λ w z q. unchanged d w z;
    }

pub stands_whole : {c d : Content} {x u b : ℕ} {t r : Tree} → Knows c t → WalkGrows c d x u t → Generalized d d x u b t r → Generalized c d x u b t r
stands_whole {t = t} k h g =
    record {
      keeps = h.keeps;
      knows = g.knows;
      rank = g.rank;
      fits = g.fits;
      like = g.like;
      lacks = g.lacks;
      continues = h.continues;
      own = h.own;
      named = g.named;
      named_regions = g.named_regions;
      closed = g.closed;
      patched = g.patched;
      clean = g.clean;
      alike = g.alike;
      exact = λ n. g.exact (rw (h.keeps.trees t k) n);
      labels = λ P v p q. let later = h.labels P v p q in (later, (g.labels P v later q).1);
      sound = λ w z. (h.sound w z, (g.sound w z).1);
      complete = λ w z names. h.complete w z names;
    }
