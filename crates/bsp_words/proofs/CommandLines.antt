-- Lemmas on the words of a command line.
use Rattle.std.proofs.Common.{◌≡◌, ◌∙◌, ◌^◌, ◌&&◌, Bool, true, false, ℕ, List, [], ◌∷◌, length, Option, Some, None, ap, refl, sym, arith, lt-ltb, ltb-true}
use Rattle.std.specs.Prelude.{Box, Result, Ok, Err, IfOk, IfErr, codes, if◌then◌else◌, is_some, nat_lt, option_and_then, option_map}
use Rattle.std.specs.Str.{bytes_eq}
use Rattle.std.specs.Box.{box_value}
use Rattle.std.specs.Result.{result_ok}
use Rattle.std.specs.Char.{digit_value}
use Rattle.std.specs.List.{list_all}
use Rattle.std.specs.Str.Parse.{AllDigits, ParsesUnsigned, digits_value, without_leading_plus}
use Rattle.clap.proofs.WalkLemmas.{both, one_text-rows}
use Rattle.clap.specs.ValueTests.{is_numeral}
use Rattle.clap.specs.Matches.{ReadsOne, one_text}
use Rattle.clap.specs.declared.parser.matches.Found.{Found}
use Rattle.clap.specs.Words.{App, FailsBy, HasKind, HasMatchesOf, Row, Shape, Text, built, fault_of, found_of, is_simple, is_simple_and_free, rows_of, subcommand_name_of, subcommand_of, subcommand_rows, subcommand_rows_of}
use Rattle.clap.specs.declared.error.Error.{Error}
use Rattle.clap.specs.declared.parser.matches.ArgMatches.{ArgMatches}
use Rattle.clap.specs.declared.parser.matches.ArgMatches.TheViews.{out-ArgMatches, out-SubCommand}
use Rattle.clap.specs.declared.parser.matches.SubCommand.{SubCommand}
use Rattle.clap.specs.Simple.{argument_words, entered, names_of}
use Rattle.clap.specs.Kinds.{Kinds, or_else}
use Rattle.clap.specs.Faults.{check_fault, defaults_fault, level_fault, settle_fault, entered_fault, walk_fault}
use Rattle.clap.specs.Walk.{Held, Names, finished, nothing_held, settled, walk, walk_from}
use Rattle.bsp_words.specs.declared.work.Misfit.{Misfit}
use Rattle.bsp_words.specs.declared.work.WordsFault.TheVariants.{OutOfForm}
use Rattle.bsp_words.specs.declared.work.CommandName.{CommandName}
use Rattle.bsp_words.specs.declared.work.CommandName.TheVariants as command
use Rattle.bsp_words.specs.declared.work.SingleName.TheVariants as single
use Rattle.bsp_words.specs.CommandLine.{AnswersWords, audit_work, body_work, check_work, command_named, command_work, explain_work, hotcheck_work, judge_work, number_in, number_read, office, plan_work, run_work, serve_work, single_in, work_from, work_in}

-- ---- numbers

digits_pass : (ds : Text) → AllDigits 10 ds → list_all (λ d. nat_lt (digit_value d) 10) ds ≡ true
digits_pass [] digits = refl
digits_pass (d ∷ ds) digits = rw (lt-ltb (digit_value d) 10 digits.0) (digits_pass ds digits.1)

passing_digits : (ds : Text) → list_all (λ d. nat_lt (digit_value d) 10) ds ≡ true → AllDigits 10 ds
passing_digits [] pass = tt
passing_digits (d ∷ ds) pass =
    let parts = both _ _ pass in
    (ltb-true _ _ parts.0, passing_digits ds parts.1)

-- what `parse` reads from a text as an unsigned number of k bits
read_is : {E : Type 0} (k : ℕ) (t : Text) (r : Result ℕ E) → ParsesUnsigned k 10 t r → result_ok r ≡ number_read k t
read_is k t (Ok n) parses =
    let ds = without_leading_plus t in
    rw (lt-ltb 0 (length ds) parses.0.0.0, digits_pass ds parses.0.0.1, lt-ltb (digits_value 10 ds) (2 ^ k) parses.0.1) (ap Some parses.1)
read_is k t (Err e) parses = go (is_numeral (without_leading_plus t) && nat_lt (digits_value 10 (without_leading_plus t)) (2 ^ k)) refl
  where
    go : (b : Bool) → (is_numeral (without_leading_plus t) && nat_lt (digits_value 10 (without_leading_plus t)) (2 ^ k)) ≡ b → None ≡ number_read k t
    go false is = rw is refl
    go true is =
        let parts = both _ _ is in
        let digits = both _ _ parts.0 in
        absurd (parses ((ltb-true _ _ digits.0, passing_digits (without_leading_plus t) digits.1), ltb-true _ _ parts.1))

-- and what `get_one` gives of the text
pub one_read : (E : Type 0) (G : Text → Result ℕ E → Type 0) (k : ℕ) (t : Text) (r : Option ℕ) → ReadsOne G t r → ((u : Text) (x : Result ℕ E) → G u x → ParsesUnsigned k 10 u x) → r ≡ number_read k t
one_read E G k t (Some n) reads parses = read_is {E = E} k t (Ok n) (parses t (Ok n) reads)
one_read E G k t None reads parses = read_is {E = E} k t (Err reads.0) (parses t (Err reads.0) reads.1)

pub found_number : (k : ℕ) (id : Text) (f : Found) (r : Option ℕ) → (one_text f id ≡ None → r ≡ None) → ((t : Text) → one_text f id ≡ Some t → r ≡ number_read k t) → r ≡ number_in k id (rows_of f)
found_number k id f r none some = go (one_text f id) refl
  where
    go : (o : Option Text) → one_text f id ≡ o → r ≡ number_in k id (rows_of f)
    go None is = none is ∙ ap (option_and_then (number_read k)) (sym is ∙ one_text-rows f id)
    go (Some t) is = some t is ∙ ap (option_and_then (number_read k)) (sym is ∙ one_text-rows f id)

-- ---- words

last_none : (a b c d last : Kinds) → or_else a (or_else b (or_else c (or_else d last))) ≡ [] → last ≡ []
last_none [] [] [] [] last none = none
last_none [] [] [] (k ∷ ks) last none = cc
last_none [] [] (k ∷ ks) d last none = cc
last_none [] (k ∷ ks) c d last none = cc
last_none (k ∷ ks) b c d last none = cc

checked : (s : Shape) (rows : List Row) (has : Bool) → s.subcommand_required ≡ true → check_fault s rows has ≡ [] → has ≡ true
checked s rows true needs none = refl
checked s rows false needs none = grind (arith, needs, none)

at_level : (s : Shape) (names : Names) (h : Held) (words : List Text) (has : Bool) (below : Kinds) → s.subcommand_required ≡ true → level_fault s names h words has below ≡ [] → has ≡ true
at_level s names h words has below needs none =
    let end = (walk s.rules names h words).held in
    let rows = finished s.rules end in
    checked s rows has needs
    (last_none (walk_fault s names (walk_from h) words) below (settle_fault s.rules s.args_override_self end) (defaults_fault (settled s.rules end).rows s.rules) (check_fault s rows has) none)

-- words without fault name a subcommand where one is needed
names_one : (a : App) (words : List Text) → (built a).top.subcommand_required ≡ true → fault_of a words ≡ [] → is_some (subcommand_of a words) ≡ true
names_one a words needs none =
    let b = built a in
    let given = argument_words a words in
    let stop = (walk b.top.rules (names_of b) nothing_held given).stopped in
    at_level b.top (names_of b) nothing_held given (is_some (entered b stop)) (entered_fault b stop) needs none

out_of_form : (words : List Text) (sub : Option (Text × List Row)) → is_some sub ≡ true → None ≡ work_from words sub → (p : Text × List Row) × (sub ≡ Some p) × (work_in words p.0 p.1 ≡ None)
out_of_form words (Some p) some none = (p, refl, sym none)
out_of_form words None some none = cc

-- the command line is of the form for which `clap` says what it finds, and why it fails
simple : is_simple office ≡ true
simple = refl

simple_and_free : is_simple_and_free office ≡ true
simple_and_free = refl

pub found_in_words : (a : App) (words : List Text) (r : Result ArgMatches Error) → a ≡ office → (is_simple_and_free a ≡ true → FailsBy (fault_of a words) r) → IfOk r (HasMatchesOf a words) → IfOk r (λ m. (fault_of office words ≡ []) × (subcommand_rows_of m ≡ subcommand_of office words))
found_in_words a words (Ok m) same kinds matches = ((rw same at kinds) simple_and_free, ((rw same at matches) simple).1)
found_in_words a words (Err e) same kinds matches = tt

pub refused_words : (a : App) (words : List Text) (r : Result ArgMatches Error) → a ≡ office → (is_simple_and_free a ≡ true → FailsBy (fault_of a words) r) → IfErr r (HasKind (fault_of office words))
refused_words a words (Ok m) same kinds = tt
refused_words a words (Err e) same kinds = (rw same at kinds) simple_and_free

pub none_answers : (words : List Text) (misfit : Misfit) → fault_of office words ≡ [] → None ≡ work_from words (subcommand_of office words) → AnswersWords words (Err (OutOfForm misfit))
none_answers words misfit none is = (none, out_of_form words _ (names_one office words refl none) is)

-- ---- the work of a command

by_tests : (words : List Text) (rows : List Row) (judge plan check hotcheck audit run serve body explain : Bool) →
    (if judge then judge_work words rows
    else if plan then plan_work rows
    else if check then check_work rows
    else if hotcheck then hotcheck_work rows
    else if audit then audit_work rows
    else if run then run_work rows
    else if serve then serve_work rows
    else if body then body_work rows
    else if explain then explain_work rows
    else None) ≡ option_and_then (command_work words rows)
    (if judge then Some command.Judge
    else if plan then Some command.Plan
    else if check then Some (command.Single single.Check)
    else if hotcheck then Some (command.Single single.Hotcheck)
    else if audit then Some (command.Single single.Audit)
    else if run then Some (command.Single single.Run)
    else if serve then Some (command.Single single.Serve)
    else if body then Some (command.Single single.Body)
    else if explain then Some (command.Single single.Explain)
    else None)
by_tests words rows true plan check hotcheck audit run serve body explain = refl
by_tests words rows false true check hotcheck audit run serve body explain = refl
by_tests words rows false false true hotcheck audit run serve body explain = refl
by_tests words rows false false false true audit run serve body explain = refl
by_tests words rows false false false false true run serve body explain = refl
by_tests words rows false false false false false true serve body explain = refl
by_tests words rows false false false false false false true body explain = refl
by_tests words rows false false false false false false false true explain = refl
by_tests words rows false false false false false false false false true = refl
by_tests words rows false false false false false false false false false = refl

-- the work of a name is that of its command
by_name : (words : List Text) (name : Text) (rows : List Row) → work_in words name rows ≡ option_and_then (command_work words rows) (command_named name)
unfolding work_in single_in command_named
by_name words name rows =
    by_tests words rows (bytes_eq name (codes "judge")) (bytes_eq name (codes "plan")) (bytes_eq name (codes "check")) (bytes_eq name (codes "hotcheck")) (bytes_eq name (codes "audit"))
    (bytes_eq name (codes "run")) (bytes_eq name (codes "serve")) (bytes_eq name (codes "body")) (bytes_eq name (codes "explain"))

-- and so is that of what was found
pub found_by_name : (words : List Text) (m : ArgMatches) (name : Text) (rows : List Row) (command : Option CommandName) → Some name ≡ subcommand_name_of m → Some rows ≡ option_map (λ p. p.1) (subcommand_rows_of m) → command ≡ command_named name → work_from words (subcommand_rows_of m) ≡ option_and_then (command_work words rows) command
found_by_name words m name rows command = go ((out-ArgMatches m).subcommand)
  where
    go : {Z : Type 0} (sub : Option (Box SubCommand Z)) → Some name ≡ option_map (λ b. (out-SubCommand (box_value b)).name.now) sub → Some rows ≡ option_map (λ p. p.1) (subcommand_rows sub) → command ≡ command_named name → work_from words (subcommand_rows sub) ≡ option_and_then (command_work words rows) command
    go None is has named = cc
    go (Some b) is has named =
        let same : name ≡ (out-SubCommand (box_value b)).name.now = cc in
        let these : rows ≡ rows_of (found_of (out-SubCommand (box_value b)).matches) = cc in
        rw (named, same, these) (by_name words (out-SubCommand (box_value b)).name.now (rows_of (found_of (out-SubCommand (box_value b)).matches)))
