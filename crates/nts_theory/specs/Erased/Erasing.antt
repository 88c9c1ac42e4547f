-- The stack of a search in which some inputs are asked in the erased mode.
use Rattle.std.specs.Prelude.{◌≡◌, ◌&&◌, ℕ, zero, suc, List, [], ◌∷◌, map, IsTrue, if◌then◌else◌}
use Rattle.nts_model.specs.Terms.Trees.{Tree}
use Rattle.nts_model.specs.Lists.{Among}
use Rattle.nts_model.specs.Derivations.Sequents.{PathKind}
use Rattle.nts_model.specs.Terms.Substitutions.{Instance}
use Rattle.nts_model.specs.Derivations.Rules.{Meaning, Mode, Application, erased}
use Rattle.nts_model.specs.Derivations.Handlers.{Access, never, Handler, Candidate, certain, Certainty, IsAsked, IsInstanceFor}
use Rattle.nts_model.specs.Canonical.Inputs.{CanonicalInput}
use Rattle.nts_model.specs.Answers.Responses.{Response}
use Rattle.nts_model.specs.Searching.Stacks.{Entry, IsReadSince}
use Rattle.nts_model.specs.Searching.Driving.{EvaluatesInput, Computes, as_read}
use Rattle.nts_theory.specs.Erased.Accessing.{suits, stands_for}

-- an entry with the mode of its input and the accesses of its provisional answer
pub record ModedEntry : Type 0 where
  pub entry : Entry
  pub mode : Mode
  pub accesses : Access

-- an entry as a proof in a mode sees it: what the mode may not take counts as not read
abbrev pub entry_in_mode : Mode → ModedEntry → Entry
entry_in_mode proof x = (let e = x.entry in record e { is_read = e.is_read && suits proof x.mode x.accesses })

abbrev pub all_seen : Mode → List ModedEntry → List Entry
all_seen proof xs = map (entry_in_mode proof) xs

abbrev pub plain_entry : ModedEntry → Entry
plain_entry x = x.entry

-- entries were read since
pub record WasReadSince (x y : ModedEntry) : Type 0 where
  pub entry : IsReadSince x.entry y.entry
  pub mode : y.mode ≡ x.mode
  pub accesses : y.accesses ≡ x.accesses

abbrev pub WereReadSince : List ModedEntry → List ModedEntry → Type 0
WereReadSince [] [] = Unit {0}
WereReadSince (x ∷ xs) (y ∷ ys) = WasReadSince x y × WereReadSince xs ys
WereReadSince xs ys = ⊥

abbrev pub mark : ModedEntry → ModedEntry
mark x = record x { entry = as_read x.entry }

abbrev pub all_marked : List ModedEntry → ℕ → List ModedEntry
all_marked [] n = []
all_marked (x ∷ xs) zero = mark x ∷ xs
all_marked (x ∷ xs) (suc n) = x ∷ all_marked xs n

-- an input of that mode was asked, and answered with these accesses: the answer is one for each mode that may take it
abbrev pub EvaluatesIn : Meaning → PathKind → List ModedEntry → List ModedEntry → CanonicalInput → Mode → Response → Certainty → Access → Type 0
EvaluatesIn m k old new i mode r c a = (proof : Mode) → IsTrue (suits proof mode a) → EvaluatesInput m proof k (all_seen proof old) (all_seen proof new) i r c

-- one round of the newest entry
abbrev pub ComputesIn : Meaning → List ModedEntry → List ModedEntry → CanonicalInput → Mode → Response → Certainty → Access → Type 0
ComputesIn m old new i mode r c a = (proof : Mode) → IsTrue (suits proof mode a) → Computes m proof (all_seen proof old) (all_seen proof new) i r c

-- the law: instances of a certain candidate of the erased mode, whose condition lets it stand for a mode, are rules of that mode
pub record ErasedAreRules (h : Handler) : Type 0 where
  pub instances : (proof : Mode) (e g : Tree) (c : Candidate) (ι : Instance) (a : Application)
      → IsAsked e g → Among (h.offers erased e g) c → c.certainty ≡ certain → IsTrue (stands_for proof c.accesses) → IsInstanceFor c e g ι a → h.applies proof a

-- the handler that offers, in each mode, those candidates of the erased one that stand for the mode
abbrev pub without_access : Candidate → Candidate
without_access c = record c { accesses = never }

abbrev pub standing_candidates : Mode → List Candidate → List Candidate
standing_candidates proof [] = []
standing_candidates proof (c ∷ cs) = if stands_for proof c.accesses then without_access c ∷ standing_candidates proof cs else standing_candidates proof cs

abbrev pub standing : Handler → Handler
standing h = record { applies = h.applies; offers = λ mode e g. standing_candidates mode (h.offers erased e g); is_coinductive = h.is_coinductive; leaks = h.leaks; judges = h.judges; at_once = h.at_once }
