-- An answer in doubt leaves unsure region constraints behind.
use Rattle.std.proofs.Common.{◌≡◌, inl, inr, true, false, List, [], ◌∷◌, map, refl, sym, ap, ◌∙◌, subst, arith}
use Rattle.std.specs.Prelude.{Contains}
use Rattle.nts_model.specs.Terms.Trees.{Tree}
use Rattle.nts_model.specs.Tables.Contents.{Content, Recorded}
use Rattle.nts_model.specs.Lists.{Among}
use Rattle.nts_model.specs.Derivations.Rules.{Mode}
use Rattle.nts_model.specs.Derivations.Handlers.{Handler, Candidate}
use Rattle.nts_model.specs.Canonical.Inputs.{PositionKind}
use Rattle.nts_model.specs.Answers.Responses.{Response, recorded_by, positioned, own_leaves}
use Rattle.nts_model.proofs.Lists.{contains_none}
use Rattle.nts_model.specs.Refutation.Opening.{entered_table}
use Rattle.nts_theory.specs.Telling.{Verdict, Queries, IsPlainResponse, SaysOf, Tells, tells_nothing, says_nothing, tells_one, tells_outlives, tells_affirmed, tells_own, tells_subtype, tells_alias, tells_normal, Outcomes, no_outcome, then_fails, then_replies, replies}
use Rattle.nts_theory.proofs.Refutation.Answered.{among_split}

none_in : (xs : List Recorded) → ((x : Recorded) → Contains xs x → ⊥) → xs ≡ []
none_in [] h = refl
none_in (x ∷ xs) h = absurd (h x (0, omega arith, refl))

abbrev LeavesNone : Verdict → Type 0
LeavesNone v = (let r = v.response in let x = r.findings in x.constraints ≡ [])

plain_leaves_none : (c : Content) (qs : List Tree) (v : Verdict) → IsPlainResponse c qs v.response → LeavesNone v
plain_leaves_none c qs v h =
    let x = h.findings in
    let read = h.reads in
    let none : x.constraints ≡ [] = none_in x.constraints (λ y i. (let r = read.found y i in contains_none r.0 r.1)) in
    ap (λ (z : Response). (let y = z.findings in y.constraints)) h.is ∙ ap (map (recorded_by (positioned (own_leaves x)))) none

says_none : (c found : Content) (qs : List Tree) (v : Verdict) → v.is_yes ≡ false → SaysOf c found qs v → LeavesNone v
says_none c found qs v unsure (inl (sure, r)) = (let z : true ≡ false = sym sure ∙ unsure in cc z)
says_none c found qs v unsure (inr (n, inl r)) = plain_leaves_none found qs v r
says_none c found qs v unsure (inr (n, inr r)) = plain_leaves_none c qs v r

outcome_leaves_none : {Q : Queries} {h : Handler} {mode : Mode} {c : Content} {e g : Tree} {qs : List Tree} {xs : List Candidate} {vs : List Verdict} → Outcomes Q h mode c e g qs xs vs → (v : Verdict) → Among vs v → v.is_yes ≡ false → LeavesNone v
outcome_leaves_none no_outcome v i unsure = absurd i
outcome_leaves_none (then_fails before fails) v i unsure = outcome_leaves_none before v i unsure
outcome_leaves_none {c = c} {qs = qs} (then_replies {vs = vs} {v = u} before (replies ps gs met posed found begun poses reach is says)) v i unsure =
    elim (among_split vs (u ∷ []) v i) [
      | inl j ↦ outcome_leaves_none before v j unsure
      | inr j ↦ (elim j [ inl e ↦ subst LeavesNone (sym e) (says_none c found qs u (sym (ap (λ (z : Verdict). z.is_yes) e) ∙ unsure) says) | inr k ↦ absurd k ])
    ]

pub doubt_leaves_none : {Q : Queries} {h : Handler} {mode : Mode} {ks : List PositionKind} {c : Content} {e g : Tree} {qs : List Tree} {v : Verdict} → Tells Q h mode ks c e g qs v → v.is_yes ≡ false → LeavesNone v
doubt_leaves_none {qs = qs} {v = v} (tells_nothing d is unsure says) n = plain_leaves_none d qs v says
doubt_leaves_none (says_nothing says) n = ap (λ (z : Response). (let y = z.findings in y.constraints)) says
doubt_leaves_none {v = v} (tells_one vs ready all (i, inl same)) n = (let z : true ≡ false = sym same.certain ∙ n in cc z)
doubt_leaves_none {v = v} (tells_one vs ready all (i, inr same)) n = outcome_leaves_none all v i n
doubt_leaves_none (tells_outlives x is none r) n = (let z : true ≡ false = sym r.sure ∙ n in cc z)
doubt_leaves_none (tells_affirmed is sure says) n = (let z : true ≡ false = sym sure ∙ n in cc z)
doubt_leaves_none {c = c} {g = g} {qs = qs} {v = v} (tells_own x own plain (replies ps gs met posed found begun poses reach is says)) n = says_none (entered_table c g) found qs v n says
doubt_leaves_none {c = c} {g = g} {qs = qs} {v = v} (tells_subtype ps met found outside related reach is says) n = says_none (entered_table c g) found qs v n says
doubt_leaves_none {v = v} (tells_alias vs ready all (i, inl same)) n = (let z : true ≡ false = sym same.certain ∙ n in cc z)
doubt_leaves_none {v = v} (tells_alias vs ready all (i, inr same)) n = outcome_leaves_none all v i n
doubt_leaves_none {c = c} {g = g} {qs = qs} {v = v} (tells_normal ps met found outside left reach is says) n = says_none (entered_table c g) found qs v n says
