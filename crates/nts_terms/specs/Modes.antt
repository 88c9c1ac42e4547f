-- What a typing mode is in the model.
use Rattle.std.specs.Prelude.{ℕ, List, map}
use Rattle.nts_model.specs.Derivations.Rules.{Mode, coherence, analysis, borrowck, post_borrowck, post_analysis, erased}
use Rattle.nts_terms.specs.declared.handles.AliasId.{AliasId}
use Rattle.nts_terms.specs.declared.modes.TypingMode.{TypingMode}
use Rattle.nts_terms.specs.declared.modes.TypingMode.TheVariants as mode

abbrev pub numbers_of : List AliasId → List ℕ
numbers_of ids = map (λ i. i.number) ids

-- a typing mode as proofs know it, its opaque types by their numbers
abbrev pub mode_of : TypingMode → Mode
mode_of mode.Coherence = coherence
mode_of (mode.Analysis ids) = analysis (numbers_of ids.items)
mode_of (mode.Borrowck ids) = borrowck (numbers_of ids.items)
mode_of (mode.PostBorrowckAnalysis ids) = post_borrowck (numbers_of ids.items)
mode_of mode.PostAnalysis = post_analysis
mode_of mode.ErasedNotCoherence = erased
