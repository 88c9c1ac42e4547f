use Rattle.std.proofs.Common.{◌≡◌, drop}
use Rattle.nts_store.specs.Words as words
use Rattle.nts_store.proofs.words.word_of.Given as goal

-- the words of the terms that are left are taken in
abbrev pub invariant-loop-term : goal.invariant-loop-term
invariant-loop-term l = words.with_all l.word (drop l.term-index l.fn.terms) ≡ words.with_all (words.label_word l.fn.label) l.fn.terms
