-- What keeps a table with its store.
use Rattle.std.proofs.Common.{◌≡◌, ℕ, ◌≤◌, List, [], ◌∷◌, ◌++◌, refl}
use Rattle.nts_model.specs.Terms.Trees.{Tree}
use Rattle.nts_store.specs.Growth.{Extends}
use Rattle.nts_unify.specs.declared.contents.Constraint.{Constraint}
use Rattle.nts_unify.specs.declared.contents.HiddenType.{HiddenType}
use Rattle.nts_unify.specs.Entries.{Entries, moved, constrained, registered, with_hidden, duplicated}
use Rattle.nts_table.specs.Tables.{Table, IsTable}
use Rattle.nts_unify.specs.Proper.{IsProper-empty}
use Rattle.nts_unify.specs.Reading.{content_of, IsConstraint, IsHiddenType, IsLawful}
use Rattle.nts_unify.specs.Lawful.{IsLawful-extended, IsLawful-moved, IsLawful-constrained, AllLawful-extended, AllLawful-append, AreHiddenTypes-push, AreHiddenTypes-set}

pub IsTable-extended : {a b : List Tree} {t : Table} → Extends a b → IsTable a t → IsTable b t
IsTable-extended {a} {b} {t} e h =
    record { now = IsLawful-extended e h.now; saved = AllLawful-extended a b t.saved e h.saved }

pub IsTable-moved : {a : List Tree} {t w : Table} {u : ℕ} → IsTable a t → t.entries.universe ≤ u → w.entries ≡ moved t.entries u → w.saved ≡ t.saved → IsTable a w
IsTable-moved {a} {t} {w} {u} h low q s = record { now = rw q (IsLawful-moved a t.entries u low h.now); saved = rw s h.saved }

pub IsTable-same : {a b : List Tree} {t u : Table} → IsTable a t → Extends a b → u ≡ t → IsTable b u
IsTable-same {a} {b} {t} {u} h e q = rw q (IsTable-extended e h)

-- the table with one more snapshot
pub IsTable-opened : {a : List Tree} {t u : Table} → IsTable a t → u.entries ≡ t.entries → u.saved ≡ t.saved ++ t.entries ∷ [] → IsTable a u
IsTable-opened {a} {t} {u} h e s = record { now = rw e h.now; saved = rw s (AllLawful-append a t.saved t.entries h.saved h.now) }

pub IsTable-constrained : {a : List Tree} {t u : Table} {x : Constraint} → IsTable a t → IsConstraint a (content_of a t.entries) x → u.entries ≡ constrained t.entries x → u.saved ≡ t.saved → IsTable a u
IsTable-constrained {a} {t} {u} {x} h k q s =
    record { now = rw q (IsLawful-constrained a t.entries x h.now k); saved = rw s h.saved }

pub IsTable-registered : {a : List Tree} {t u : Table} {x : HiddenType} → IsTable a t → IsHiddenType a (content_of a t.entries) x → u.entries ≡ registered t.entries x → u.saved ≡ t.saved → IsTable a u
IsTable-registered {a} {t} {u} {x} h k q s =
    let l = h.now in
    record {
      now = rw q (record {
        held = l.held;
        constraints = l.constraints;
        hidden = record { lookup = AreHiddenTypes-push a (content_of a t.entries) t.entries.hidden.lookup x l.hidden.lookup k; duplicates = l.hidden.duplicates };
        descends = record { links = l.descends.links; sub_links = l.descends.sub_links };
        sound = l.sound;
        proper = l.proper;
      });
      saved = rw s h.saved;
    }

pub IsTable-with_hidden : {a : List Tree} {t u : Table} (n : ℕ) {x : HiddenType} → IsTable a t → IsHiddenType a (content_of a t.entries) x → u.entries ≡ with_hidden t.entries n x → u.saved ≡ t.saved → IsTable a u
IsTable-with_hidden {a} {t} {u} n {x} h k q s =
    let l = h.now in
    record {
      now = rw q (record {
        held = l.held;
        constraints = l.constraints;
        hidden = record { lookup = AreHiddenTypes-set a (content_of a t.entries) t.entries.hidden.lookup n x l.hidden.lookup k; duplicates = l.hidden.duplicates };
        descends = record { links = l.descends.links; sub_links = l.descends.sub_links };
        sound = l.sound;
        proper = l.proper;
      });
      saved = rw s h.saved;
    }

pub IsTable-duplicated : {a : List Tree} {t u : Table} {x : HiddenType} → IsTable a t → IsHiddenType a (content_of a t.entries) x → u.entries ≡ duplicated t.entries x → u.saved ≡ t.saved → IsTable a u
IsTable-duplicated {a} {t} {u} {x} h k q s =
    let l = h.now in
    record {
      now = rw q (record {
        held = l.held;
        constraints = l.constraints;
        hidden = record { lookup = l.hidden.lookup; duplicates = AreHiddenTypes-push a (content_of a t.entries) t.entries.hidden.duplicates x l.hidden.duplicates k };
        descends = record { links = l.descends.links; sub_links = l.descends.sub_links };
        sound = l.sound;
        proper = l.proper;
      });
      saved = rw s h.saved;
    }

-- a table without variables
pub IsTable-new : (ts : List Tree) (t : Table) → t.entries ≡ record { variables = []; order = []; universe = 0; constraints = []; hidden = record { lookup = []; duplicates = [] } } → t.saved ≡ [] → IsTable ts t
IsTable-new ts t e s =
    let c : Entries = record { variables = []; order = []; universe = 0; constraints = []; hidden = record { lookup = []; duplicates = [] } } in
    let now : IsLawful ts c = record {
      held = tt;
      constraints = tt;
      hidden = record { lookup = tt; duplicates = tt };
      descends = record { links = λ n m v h q. cc; sub_links = λ n m v h q. cc };
      sound = record {
        descends = λ n m q. cc;
        one_kind = λ n m q. cc;
        known_trees = λ n x q. cc;
        closed = λ n x q. cc;
        ranks = λ n x k q. cc;
        fits = λ n x k q. cc;
        linked = λ n m q. cc;
        bound = λ n x q. cc;
        unbound = λ n q. cc;
        ordered = λ n q. absurd q;
        no_region = λ n q. absurd q;
        acyclic = tt;
      };
      proper = IsProper-empty (content_of ts c) refl refl;
    } in
    record { now = rw e now; saved = rw s tt }

pub IsTable-now : {ts : List Tree} {t u : Table} → IsTable ts t → IsLawful ts u.entries → u.saved ≡ t.saved → IsTable ts u
IsTable-now {ts} {t} {u} h k s = record { now = k; saved = rw s h.saved }

-- the table whose entries went with a store that has grown, its snapshots as before
pub IsTable-run : {a b : List Tree} {t u : Table} → IsTable a t → Extends a b → IsLawful b u.entries → u.saved ≡ t.saved → IsTable b u
IsTable-run {a} {b} {t} {u} h e k s = record { now = k; saved = rw s (AllLawful-extended a b t.saved e h.saved) }
