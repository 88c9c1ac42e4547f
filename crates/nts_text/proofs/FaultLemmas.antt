-- What lines do not say, and why they are refused.
use Rattle.std.proofs.Common.{◌≡◌, ◌≢◌, ℕ, ◌-◌, true, false, List, [], ◌∷◌, ◌++◌, ◌⊎◌, inl, inr, length, map, take, drop, refl, sym, ap, subst, ◌∙◌, arith}
use Rattle.std.specs.Prelude.{codes, Bool, Result, Ok, Err, IsErrAnd, IfOk, IfErr, OnOk}
use Rattle.nts_text.specs.NameTable.{IsNameTaken}
use Rattle.nts_text.specs.declared.commands.Command.{Command}
use Rattle.std.proofs.lemmas.List.{map-append, take_all, length-drop}
use Rattle.nts_model.specs.declared.labels.Sort.{Sort}
use Rattle.nts_text.specs.Declarations.{sign_of, signs_of_params, unmarked, AreParams, AreSortsIfAny, EndsIn}
use Rattle.nts_text.specs.Faults.{HasFreeName, HasBoundTwice, HasRigidAlias, HasBadNames, IsFaultOf}
use Rattle.nts_text.specs.Lines.{bytes_of, BeginsWithKeyword, Says, TokensSayNothing, SaysTooMuch}
use Rattle.nts_text.specs.Reasons.{is_form_reason, is_name_reason}
use Rattle.nts_text.specs.Tokens.{AreTokensFrom, HasStrayByte}
use Rattle.nts_text.specs.declared.lexer.Token.{Token}
use Rattle.nts_text.specs.declared.lexer.TokenKind.TheVariants.{Name, Close, Open}
use Rattle.nts_text.specs.declared.names.NameTable.{NameTable}
use Rattle.nts_text.specs.declared.parser.Keyword.{Keyword}
use Rattle.nts_text.specs.declared.parser.Keyword.TheVariants as keywords
use Rattle.nts_text.specs.declared.parser.Line.{Line}
use Rattle.nts_text.specs.declared.parser.Line.TheVariants as lines
use Rattle.nts_text.specs.declared.parser.Param.{Param}
use Rattle.nts_text.specs.declared.predicates.Node.{Node}
use Rattle.nts_text.specs.declared.refusals.Refusal.TheVariants as reasons
use Rattle.nts_text.specs.declared.resolver.Site.TheVariants as sites
use Rattle.std.specs.Global.{Vec}
use Rattle.nts_text.specs.declared.refusals.TextError.{TextError}
use Rattle.nts_text.specs.declared.refusals.TextError.TheVariants.{Memory, Refused}

-- lists with the same end
last_same : {A : Type 0} (xs ys : List A) (a b : A) → xs ++ a ∷ [] ≡ ys ++ b ∷ [] → (xs ≡ ys) × (a ≡ b)
last_same [] [] a b h = (refl, cc)
last_same [] (y ∷ []) a b h = cc
last_same [] (y ∷ z ∷ ys) a b h = cc
last_same (x ∷ []) [] a b h = cc
last_same (x ∷ z ∷ xs) [] a b h = cc
last_same (x ∷ xs) (y ∷ ys) a b h =
    let rest : xs ++ a ∷ [] ≡ ys ++ b ∷ [] = cc in
    let first : x ≡ y = cc in
    let e = last_same xs ys a b rest in
    (ap (λ z. z ∷ xs) first ∙ ap (λ zs. y ∷ zs) e.0, e.1)

-- parameters end in a bracket, and not in a word
closed : (line : List ℕ) (before : List Token) (word : Token) (ps : List Param) (w : List ℕ) → sign_of line word ≡ (Name, w) → AreParams line (before ++ word ∷ []) ps → ⊥
closed line before word [] w s h = h
closed line before word (p ∷ ps) w s h =
    let e = last_same (map (sign_of line) before) ((Open, []) ∷ signs_of_params p ps) (sign_of line word) (Close, []) (sym (map-append (sign_of line) before (word ∷ [])) ∙ h) in
    let f : Name ≡ Close = ap (λ x. x.0) (sym s ∙ e.1) in
    cc

-- a trait's line says nothing where what stands before `coinductive` is no list of sorts
pub no_coinductive_trait : (line : List ℕ) (ts rest list : List Token) → rest ≡ drop 1 ts → EndsIn (codes "coinductive") line rest list
    → ((ss : List Sort) → AreParams line list (map unmarked ss) → ⊥) → TokensSayNothing line ts keywords.Trait
no_coinductive_trait line ts rest list r ends none (lines.Trait name sorts true) says =
    let (others, all, named, body) = says in
    let same : others ≡ rest = ap (drop 1) (sym all) ∙ sym r in
    let e = last_same body.0 list body.1.0 ends.0 (sym body.1.1 ∙ same ∙ ends.1) in
    none sorts.items (subst (λ xs. AreParams line xs (map unmarked sorts.items)) e.0 body.2)
no_coinductive_trait line ts rest list r ends none (lines.Trait name sorts false) says =
    let (others, all, named, are) = says in
    let same : others ≡ list ++ ends.0 ∷ [] = ap (drop 1) (sym all) ∙ sym r ∙ ends.1 in
    closed line list ends.0 (map unmarked sorts.items) (codes "coinductive") ends.2 (subst (λ xs. AreParams line xs (map unmarked sorts.items)) same are)
no_coinductive_trait line ts rest list r ends none _ says = says

-- .. or where there is no `coinductive`, and the whole is none
pub no_trait : (line : List ℕ) (ts rest : List Token) → rest ≡ drop 1 ts → ((list : List Token) → EndsIn (codes "coinductive") line rest list → ⊥)
    → ((ss : List Sort) → AreParams line rest (map unmarked ss) → ⊥) → TokensSayNothing line ts keywords.Trait
no_trait line ts rest r other none (lines.Trait name sorts true) says =
    let (others, all, named, body) = says in
    let same : others ≡ rest = ap (drop 1) (sym all) ∙ sym r in
    other body.0 (body.1.0, sym same ∙ body.1.1, body.1.2)
no_trait line ts rest r other none (lines.Trait name sorts false) says =
    let (others, all, named, are) = says in
    let same : others ≡ rest = ap (drop 1) (sym all) ∙ sym r in
    none sorts.items (subst (λ xs. AreParams line xs (map unmarked sorts.items)) same are)
no_trait line ts rest r other none _ says = says

-- nor do sorts, if there are any
closed_if_any : (line : List ℕ) (before : List Token) (word : Token) (ss : List Sort) (w : List ℕ) → sign_of line word ≡ (Name, w) → AreSortsIfAny line (before ++ word ∷ []) ss → ⊥
closed_if_any line [] word ss w s (inl h) = let e = h.0 in cc
closed_if_any line (b ∷ bs) word ss w s (inl h) = let e = h.0 in cc
closed_if_any line before word ss w s (inr h) = closed line before word (map unmarked ss) w s h

-- an alias's line says nothing where what stands before `rigid` is no list of sorts
pub no_rigid_alias : (line : List ℕ) (ts rest list : List Token) → rest ≡ drop 1 ts → EndsIn (codes "rigid") line rest list
    → ((ss : List Sort) → AreSortsIfAny line list ss → ⊥) → TokensSayNothing line ts keywords.Alias
no_rigid_alias line ts rest list r ends none (lines.Alias name sorts true) says =
    let (others, all, named, body) = says in
    let same : others ≡ rest = ap (drop 1) (sym all) ∙ sym r in
    let e = last_same body.0 list body.1.0 ends.0 (sym body.1.1 ∙ same ∙ ends.1) in
    none sorts.items (subst (λ xs. AreSortsIfAny line xs sorts.items) e.0 body.2)
no_rigid_alias line ts rest list r ends none (lines.Alias name sorts false) says =
    let (others, all, named, are) = says in
    let same : others ≡ list ++ ends.0 ∷ [] = ap (drop 1) (sym all) ∙ sym r ∙ ends.1 in
    closed_if_any line list ends.0 sorts.items (codes "rigid") ends.2 (subst (λ xs. AreSortsIfAny line xs sorts.items) same are)
no_rigid_alias line ts rest list r ends none _ says = says

-- .. or where there is no `rigid`, and the whole is none
pub no_alias : (line : List ℕ) (ts rest : List Token) → rest ≡ drop 1 ts → ((list : List Token) → EndsIn (codes "rigid") line rest list → ⊥)
    → ((ss : List Sort) → AreSortsIfAny line rest ss → ⊥) → TokensSayNothing line ts keywords.Alias
no_alias line ts rest r other none (lines.Alias name sorts true) says =
    let (others, all, named, body) = says in
    let same : others ≡ rest = ap (drop 1) (sym all) ∙ sym r in
    other body.0 (body.1.0, sym same ∙ body.1.1, body.1.2)
no_alias line ts rest r other none (lines.Alias name sorts false) says =
    let (others, all, named, are) = says in
    let same : others ≡ rest = ap (drop 1) (sym all) ∙ sym r in
    none sorts.items (subst (λ xs. AreSortsIfAny line xs sorts.items) same are)
no_alias line ts rest r other none _ says = says

-- what stands behind the first token
pub rest_is : (ts : List Token) → take (length ts - 1) (drop 1 ts) ≡ drop 1 ts
rest_is ts = take_all (length ts - 1) (drop 1 ts) (omega (arith, length-drop 1 ts))

-- why a call fails is passed on
pub passed_on : {T : Type 0} (r : Result T TextError) (e : TextError) (P : TextError → Type 0) → IsErrAnd r (λ x. x ≡ e) → P e → IfErr r P
passed_on (Ok x) e P h k = tt
passed_on (Err x) e P h k = subst P (sym h) k

-- .. and so is what an unknown name says
pub unknown_on : {T : Type 0} (r : Result T TextError) (e : TextError) (A : Type 0) → IsErrAnd r (λ x. x ≡ e) → (e ≡ Refused reasons.UnknownName → A) → r ≡ Err (Refused reasons.UnknownName) → A
unknown_on (Ok x) e A h k is = cc
unknown_on (Err x) e A h k is = k (sym h ∙ (let f : x ≡ Refused reasons.UnknownName = cc in f))

pub twice_on : {T : Type 0} (r : Result T TextError) (e : TextError) (A : Type 0) → IsErrAnd r (λ x. x ≡ e) → (e ≡ Refused reasons.NameDeclaredTwice → A) → r ≡ Err (Refused reasons.NameDeclaredTwice) → A
twice_on (Ok x) e A h k is = cc
twice_on (Err x) e A h k is = k (sym h ∙ (let f : x ≡ Refused reasons.NameDeclaredTwice = cc in f))

pub rigid_on : {T : Type 0} (r : Result T TextError) (e : TextError) (A : Type 0) → IsErrAnd r (λ x. x ≡ e) → (e ≡ Refused reasons.AliasIsRigid → A) → r ≡ Err (Refused reasons.AliasIsRigid) → A
rigid_on (Ok x) e A h k is = cc
rigid_on (Err x) e A h k is = k (sym h ∙ (let f : x ≡ Refused reasons.AliasIsRigid = cc in f))

-- why the nodes of a clause are refused, and those of a goal
pub bad_impl : (names : NameTable) (line : List ℕ) (head body : Vec Node) (e : TextError) → is_name_reason e ≡ true → (e ≡ Refused reasons.VariableInAnEnvironment → sites.Clause ≡ sites.Environment)
    → (e ≡ Refused reasons.UnknownName → HasFreeName names line head.items ⊎ HasFreeName names line body.items)
    → (e ≡ Refused reasons.NameDeclaredTwice → HasBoundTwice names line head.items ⊎ HasBoundTwice names line body.items)
    → (e ≡ Refused reasons.AliasIsRigid → HasRigidAlias names line head.items ⊎ HasRigidAlias names line body.items) → HasBadNames names line e (lines.Impl head body)
bad_impl names line head body Memory reason variable unknown twice rigid = tt
bad_impl names line head body (Refused reasons.UnknownName) reason variable unknown twice rigid = unknown refl
bad_impl names line head body (Refused reasons.NameDeclaredTwice) reason variable unknown twice rigid = twice refl
bad_impl names line head body (Refused reasons.WrongArguments) reason variable unknown twice rigid = tt
bad_impl names line head body (Refused reasons.ParameterInAClause) reason variable unknown twice rigid = tt
bad_impl names line head body (Refused reasons.VariableInAnEnvironment) reason variable unknown twice rigid = let f : sites.Clause ≡ sites.Environment = variable refl in cc
bad_impl names line head body (Refused reasons.AliasIsRigid) reason variable unknown twice rigid = rigid refl
bad_impl names line head body (Refused reasons.UnknownCommand) reason variable unknown twice rigid = cc
bad_impl names line head body (Refused reasons.Syntax) reason variable unknown twice rigid = cc
bad_impl names line head body (Refused reasons.NumberOutOfRange) reason variable unknown twice rigid = cc

pub bad_norm : (names : NameTable) (line : List ℕ) (head body : Vec Node) (e : TextError) → is_name_reason e ≡ true → (e ≡ Refused reasons.VariableInAnEnvironment → sites.Clause ≡ sites.Environment)
    → (e ≡ Refused reasons.UnknownName → HasFreeName names line head.items ⊎ HasFreeName names line body.items)
    → (e ≡ Refused reasons.NameDeclaredTwice → HasBoundTwice names line head.items ⊎ HasBoundTwice names line body.items)
    → (e ≡ Refused reasons.AliasIsRigid → HasRigidAlias names line head.items ⊎ HasRigidAlias names line body.items) → HasBadNames names line e (lines.Norm head body)
bad_norm names line head body Memory reason variable unknown twice rigid = tt
bad_norm names line head body (Refused reasons.UnknownName) reason variable unknown twice rigid = unknown refl
bad_norm names line head body (Refused reasons.NameDeclaredTwice) reason variable unknown twice rigid = twice refl
bad_norm names line head body (Refused reasons.WrongArguments) reason variable unknown twice rigid = tt
bad_norm names line head body (Refused reasons.ParameterInAClause) reason variable unknown twice rigid = tt
bad_norm names line head body (Refused reasons.VariableInAnEnvironment) reason variable unknown twice rigid = let f : sites.Clause ≡ sites.Environment = variable refl in cc
bad_norm names line head body (Refused reasons.AliasIsRigid) reason variable unknown twice rigid = rigid refl
bad_norm names line head body (Refused reasons.UnknownCommand) reason variable unknown twice rigid = cc
bad_norm names line head body (Refused reasons.Syntax) reason variable unknown twice rigid = cc
bad_norm names line head body (Refused reasons.NumberOutOfRange) reason variable unknown twice rigid = cc

pub bad_goal : (names : NameTable) (line : List ℕ) (ns : Vec Node) (e : TextError) → is_name_reason e ≡ true → (e ≡ Refused reasons.ParameterInAClause → sites.Goal ≡ sites.Clause) → (e ≡ Refused reasons.VariableInAnEnvironment → sites.Goal ≡ sites.Environment)
    → (e ≡ Refused reasons.UnknownName → HasFreeName names line ns.items) → (e ≡ Refused reasons.NameDeclaredTwice → HasBoundTwice names line ns.items) → (e ≡ Refused reasons.AliasIsRigid → HasRigidAlias names line ns.items) → HasBadNames names line e (lines.Goal ns)
bad_goal names line ns Memory reason parameter variable unknown twice rigid = tt
bad_goal names line ns (Refused reasons.UnknownName) reason parameter variable unknown twice rigid = unknown refl
bad_goal names line ns (Refused reasons.NameDeclaredTwice) reason parameter variable unknown twice rigid = twice refl
bad_goal names line ns (Refused reasons.WrongArguments) reason parameter variable unknown twice rigid = tt
bad_goal names line ns (Refused reasons.ParameterInAClause) reason parameter variable unknown twice rigid = let f : sites.Goal ≡ sites.Clause = parameter refl in cc
bad_goal names line ns (Refused reasons.VariableInAnEnvironment) reason parameter variable unknown twice rigid = let f : sites.Goal ≡ sites.Environment = variable refl in cc
bad_goal names line ns (Refused reasons.AliasIsRigid) reason parameter variable unknown twice rigid = rigid refl
bad_goal names line ns (Refused reasons.UnknownCommand) reason parameter variable unknown twice rigid = cc
bad_goal names line ns (Refused reasons.Syntax) reason parameter variable unknown twice rigid = cc
bad_goal names line ns (Refused reasons.NumberOutOfRange) reason parameter variable unknown twice rigid = cc

-- .. and those of an environment
pub bad_env : (names : NameTable) (line : List ℕ) (ns : Vec Node) (e : TextError) → is_name_reason e ≡ true → (e ≡ Refused reasons.ParameterInAClause → sites.Environment ≡ sites.Clause)
    → (e ≡ Refused reasons.UnknownName → HasFreeName names line ns.items) → (e ≡ Refused reasons.NameDeclaredTwice → HasBoundTwice names line ns.items) → (e ≡ Refused reasons.AliasIsRigid → HasRigidAlias names line ns.items) → HasBadNames names line e (lines.Env ns)
bad_env names line ns Memory reason parameter unknown twice rigid = tt
bad_env names line ns (Refused reasons.UnknownName) reason parameter unknown twice rigid = unknown refl
bad_env names line ns (Refused reasons.NameDeclaredTwice) reason parameter unknown twice rigid = twice refl
bad_env names line ns (Refused reasons.WrongArguments) reason parameter unknown twice rigid = tt
bad_env names line ns (Refused reasons.VariableInAnEnvironment) reason parameter unknown twice rigid = tt
bad_env names line ns (Refused reasons.ParameterInAClause) reason parameter unknown twice rigid = let f : sites.Environment ≡ sites.Clause = parameter refl in cc
bad_env names line ns (Refused reasons.AliasIsRigid) reason parameter unknown twice rigid = rigid refl
bad_env names line ns (Refused reasons.UnknownCommand) reason parameter unknown twice rigid = cc
bad_env names line ns (Refused reasons.Syntax) reason parameter unknown twice rigid = cc
bad_env names line ns (Refused reasons.NumberOutOfRange) reason parameter unknown twice rigid = cc

-- why a declaration is refused
pub bad_type : (names : NameTable) (line : List ℕ) (name : Token) (params : Vec Param) (e : TextError)
    → (e ≢ Memory → (e ≡ Refused reasons.NameDeclaredTwice) × IsNameTaken names (bytes_of line name)) → HasBadNames names line e (lines.Type name params)
bad_type names line name params Memory taken = tt
bad_type names line name params (Refused reasons.NameDeclaredTwice) taken = (taken (λ m. cc)).1
bad_type names line name params (Refused r) taken = absurd (let e : Refused r ≡ Refused reasons.NameDeclaredTwice = (taken (λ m. cc)).0 in cc)

pub bad_trait : (names : NameTable) (line : List ℕ) (name : Token) (sorts : Vec Sort) (coinductive : Bool) (e : TextError)
    → (e ≢ Memory → (e ≡ Refused reasons.NameDeclaredTwice) × IsNameTaken names (bytes_of line name)) → HasBadNames names line e (lines.Trait name sorts coinductive)
bad_trait names line name sorts coinductive Memory taken = tt
bad_trait names line name sorts coinductive (Refused reasons.NameDeclaredTwice) taken = (taken (λ m. cc)).1
bad_trait names line name sorts coinductive (Refused r) taken = absurd (let e : Refused r ≡ Refused reasons.NameDeclaredTwice = (taken (λ m. cc)).0 in cc)

pub bad_alias : (names : NameTable) (line : List ℕ) (name : Token) (sorts : Vec Sort) (rigid : Bool) (e : TextError)
    → (e ≢ Memory → (e ≡ Refused reasons.NameDeclaredTwice) × IsNameTaken names (bytes_of line name)) → HasBadNames names line e (lines.Alias name sorts rigid)
bad_alias names line name sorts rigid Memory taken = tt
bad_alias names line name sorts rigid (Refused reasons.NameDeclaredTwice) taken = (taken (λ m. cc)).1
bad_alias names line name sorts rigid (Refused r) taken = absurd (let e : Refused r ≡ Refused reasons.NameDeclaredTwice = (taken (λ m. cc)).0 in cc)

-- what is said of a line that is refused
pub no_meaning : (P Q : Command → Type 0) (D K : Type 0) (F : TextError → Type 0) (r : Result Command TextError) (e : TextError) → IsErrAnd r (λ x. x ≡ e) → F e
    → record { sorted : IfOk r P; means : IfOk r Q; declares : OnOk r D; kept : OnOk r K; fault : IfErr r F }
no_meaning P Q D K F (Ok x) e h bad = absurd h
no_meaning P Q D K F (Err x) e h bad = record { sorted = tt; means = tt; declares = tt; kept = tt; fault = subst F (sym h) bad }

-- what is said of a declaration where memory ran out
pub declares_no_type : (A : TextError → Type 0) (B F O L X Y : Type 0) (D N : ℕ → Type 0) (r : Result ℕ TextError) → IsErrAnd r (λ e. e ≡ Memory) → O → X → Y
    → record { taken : IfErr r (λ e. e ≢ Memory → A e); kept : r ≡ Err (Refused reasons.NameDeclaredTwice) → B; free : OnOk r F; declared : IfOk r D; others : O; number : IfOk r N; listed : OnOk r L; traits : X; aliases : Y }
declares_no_type A B F O L X Y D N (Ok n) h others rest more = absurd h
declares_no_type A B F O L X Y D N (Err e) h others rest more =
    record { taken = λ other. absurd (other h); kept = λ is. cc; free = tt; declared = tt; others = others; number = tt; listed = tt; traits = rest; aliases = more }

pub declares_no_trait : (A : TextError → Type 0) (B F O L X Y : Type 0) (D N : ℕ → Type 0) (r : Result ℕ TextError) → IsErrAnd r (λ e. e ≡ Memory) → O → X → Y
    → record { taken : IfErr r (λ e. e ≢ Memory → A e); kept : r ≡ Err (Refused reasons.NameDeclaredTwice) → B; free : OnOk r F; declared : IfOk r D; others : O; number : IfOk r N; listed : OnOk r L; types : X; aliases : Y }
declares_no_trait A B F O L X Y D N (Ok n) h others rest more = absurd h
declares_no_trait A B F O L X Y D N (Err e) h others rest more =
    record { taken = λ other. absurd (other h); kept = λ is. cc; free = tt; declared = tt; others = others; number = tt; listed = tt; types = rest; aliases = more }

pub declares_no_alias : (A : TextError → Type 0) (B F O L X Y : Type 0) (D N : ℕ → Type 0) (r : Result ℕ TextError) → IsErrAnd r (λ e. e ≡ Memory) → O → X → Y
    → record { taken : IfErr r (λ e. e ≢ Memory → A e); kept : r ≡ Err (Refused reasons.NameDeclaredTwice) → B; free : OnOk r F; declared : IfOk r D; others : O; number : IfOk r N; listed : OnOk r L; types : X; traits : Y }
declares_no_alias A B F O L X Y D N (Ok n) h others rest more = absurd h
declares_no_alias A B F O L X Y D N (Err e) h others rest more =
    record { taken = λ other. absurd (other h); kept = λ is. cc; free = tt; declared = tt; others = others; number = tt; listed = tt; types = rest; traits = more }

-- a byte of no token
pub fault_of_byte : (names : NameTable) (line : List ℕ) (k : Keyword) (end : ℕ) (e : TextError) → BeginsWithKeyword line k end
    → (e ≢ Memory → (e ≡ Refused reasons.Syntax) × HasStrayByte line end) → IsFaultOf names line e
fault_of_byte names line k end Memory begins h = tt
fault_of_byte names line k end (Refused reasons.Syntax) begins h = record { keyword = k; end = end; begins = begins; nothing = inl (h (λ m. cc)).1 }
fault_of_byte names line k end (Refused r) begins h = absurd (let e : Refused r ≡ Refused reasons.Syntax = (h (λ m. cc)).0 in cc)

-- tokens that say nothing, or a number that is no depth
pub fault_of_form : (names : NameTable) (line : List ℕ) (k : Keyword) (end : ℕ) (ts : List Token) (e : TextError) → BeginsWithKeyword line k end → AreTokensFrom line end ts
    → is_form_reason e ≡ true → (e ≡ Refused reasons.Syntax → TokensSayNothing line ts k) → (e ≡ Refused reasons.NumberOutOfRange → (k ≡ keywords.Depth) × SaysTooMuch line ts) → IsFaultOf names line e
fault_of_form names line k end ts Memory begins cut form nothing range = tt
fault_of_form names line k end ts (Refused reasons.Syntax) begins cut form nothing range = record { keyword = k; end = end; begins = begins; nothing = inr (ts, cut, nothing refl) }
fault_of_form names line k end ts (Refused reasons.NumberOutOfRange) begins cut form nothing range =
    let e = range refl in
    record { end = end; tokens = ts; begins = subst (λ x. BeginsWithKeyword line x end) e.0 begins; cut = cut; above = e.1 }
fault_of_form names line k end ts (Refused r) begins cut form nothing range = cc

-- names
pub fault_of_names : (names : NameTable) (line : List ℕ) (k : Keyword) (end : ℕ) (ts : List Token) (l : Line) (e : TextError) → BeginsWithKeyword line k end → AreTokensFrom line end ts
    → Says line ts k l → HasBadNames names line e l → IsFaultOf names line e
fault_of_names names line k end ts l Memory begins cut says bad = tt
fault_of_names names line k end ts l (Refused reasons.UnknownCommand) begins cut says bad = absurd bad
fault_of_names names line k end ts l (Refused reasons.Syntax) begins cut says bad = absurd bad
fault_of_names names line k end ts l (Refused reasons.NumberOutOfRange) begins cut says bad = absurd bad
fault_of_names names line k end ts l (Refused reasons.UnknownName) begins cut says bad = record { keyword = k; end = end; tokens = ts; parsed = l; begins = begins; cut = cut; says = says; bad = bad }
fault_of_names names line k end ts l (Refused reasons.NameDeclaredTwice) begins cut says bad = record { keyword = k; end = end; tokens = ts; parsed = l; begins = begins; cut = cut; says = says; bad = bad }
fault_of_names names line k end ts l (Refused reasons.WrongArguments) begins cut says bad = record { keyword = k; end = end; tokens = ts; parsed = l; begins = begins; cut = cut; says = says; bad = bad }
fault_of_names names line k end ts l (Refused reasons.ParameterInAClause) begins cut says bad = record { keyword = k; end = end; tokens = ts; parsed = l; begins = begins; cut = cut; says = says; bad = bad }
fault_of_names names line k end ts l (Refused reasons.VariableInAnEnvironment) begins cut says bad = record { keyword = k; end = end; tokens = ts; parsed = l; begins = begins; cut = cut; says = says; bad = bad }
fault_of_names names line k end ts l (Refused reasons.AliasIsRigid) begins cut says bad = record { keyword = k; end = end; tokens = ts; parsed = l; begins = begins; cut = cut; says = says; bad = bad }
