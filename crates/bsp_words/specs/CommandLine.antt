-- The command line of the office, and the work that its words ask for.
use Rattle.std.specs.Prelude.{◌≡◌, ◌++◌, ℕ, ◌^◌, ◌&&◌, pos, nat_lt, Bool, List, [], ◌∷◌, Option, Some, None, Result, Ok, Err, true, false, codes, if◌then◌else◌, option_map, option_and_then, unwrap_or, map, take, drop, length, get_or, ◌==◌, ◌||◌, is_some}
use Rattle.std.specs.Borrow.{Bor}
use Rattle.std.specs.Option.{option_map_or}
use Rattle.std.specs.Result.{result_ok}
use Rattle.std.specs.Str.{bytes_eq}
use Rattle.std.specs.Str.Parse.{digits_value, without_leading_plus}
use Rattle.clap.specs.Words.{App, HasKind, Row, all_of, Rule, Shape, Text, fault_of, first_of, new_app, new_rule, one_of, subcommand_of, with_rule}
use Rattle.clap.specs.Simple.{on_top}
use Rattle.clap.specs.ValueTests.{is_numeral}
use Rattle.clap.specs.declared.builder.action.ArgAction.TheVariants.{Append, SetTrue}
use Rattle.clap.specs.declared.builder.value_parser.ValueParser.TheVariants.{Signed}
use Rattle.bsp_words.specs.Filling.{with_subcommands}
use Rattle.bsp_fields.specs.CivilDay.{CivilDay}
use Rattle.bsp_fields.specs.Codes.{agent_reading, code_reading}
use Rattle.bsp_fields.specs.Days.{text_reading}
use Rattle.bsp_fields.specs.Tokens.{token_reading}
use Rattle.bsp_words.specs.declared.work.BookSource.{BookSource}
use Rattle.bsp_words.specs.declared.work.BookSource.TheVariants as kept
use Rattle.bsp_words.specs.declared.work.TokenSource.{TokenSource}
use Rattle.bsp_words.specs.declared.work.TokenSource.TheVariants as source
use Rattle.bsp_words.specs.declared.work.Work.{Work}
use Rattle.bsp_words.specs.declared.work.Work.TheVariants.{Audit, Body, Check, Explain, Hotcheck, Judge, Plan, PlanOf, Run, Serve}
use Rattle.bsp_words.specs.declared.work.CommandName.{CommandName}
use Rattle.bsp_words.specs.declared.work.CommandName.TheVariants as command
use Rattle.bsp_words.specs.declared.work.SingleName.{SingleName}
use Rattle.bsp_words.specs.declared.work.SingleName.TheVariants as single
use Rattle.bsp_words.specs.Order.{in_order, marks_in}
use Rattle.bsp_words.specs.declared.work.Earlier.{Earlier}
use Rattle.bsp_words.specs.declared.work.Limits.{Limits}
use Rattle.bsp_words.specs.declared.work.Range.{Range}
use Rattle.bsp_words.specs.declared.work.Setting.{Setting}
use Rattle.bsp_words.specs.declared.work.WordsFault.{WordsFault}
use Rattle.bsp_words.specs.declared.work.WordsFault.TheVariants.{Refused, OutOfForm, NoRoom}

-- ---- the command line, as `clap` reads it

-- an argument without a name in front, which must be there or not
abbrev pub word_rule : Text → Bool → Rule
word_rule id required = record (new_rule id) { required = required }

abbrev pub wanted_word : Text → Rule
wanted_word id = word_rule id true

-- a flag: --ID
abbrev pub flag_rule : Text → Rule
flag_rule id = record (new_rule id) { long = Some id; action = Some SetTrue }

-- check FILE, and --quiet
abbrev pub check_app : App
check_app = with_rule (with_rule (new_app (codes "check")) (flag_rule (codes "quiet"))) (wanted_word (codes "FILE"))

-- hotcheck FILE, with --quiet and --list
abbrev pub hotcheck_app : App
hotcheck_app =
    with_rule (with_rule (with_rule (new_app (codes "hotcheck")) (flag_rule (codes "quiet"))) (flag_rule (codes "list"))) (wanted_word (codes "FILE"))

-- audit FILE, the file of a book
abbrev pub audit_app : App
audit_app = with_rule (new_app (codes "audit")) (wanted_word (codes "FILE"))

-- an option with a value behind it: --ID VALUE
abbrev pub named_option : Text → Rule
named_option id = record (new_rule id) { long = Some id; value_names = 1 }

-- which must be there
abbrev pub needed_option : Text → Rule
needed_option id = record (named_option id) { required = true }

-- which may come more than once
abbrev pub repeated_option : Text → Rule
repeated_option id = record (named_option id) { action = Some Append }

-- which must be there, and may come more than once
abbrev pub some_option : Text → Rule
some_option id = record (repeated_option id) { required = true }

-- explain CODE, and explain alone
abbrev pub explain_app : App
explain_app = with_rule (new_app (codes "explain")) (new_rule (codes "CODE"))

-- plan FILE with the texts published before and the business day, or plan --of BOOK
abbrev pub plan_app : App
plan_app =
    with_rule
    (with_rule (with_rule (with_rule (new_app (codes "plan")) (repeated_option (codes "after"))) (named_option (codes "day"))) (named_option (codes "of")))
    (new_rule (codes "FILE"))

-- body REQUEST FILE
abbrev pub body_app : App
body_app = with_rule (with_rule (new_app (codes "body")) (wanted_word (codes "REQUEST"))) (wanted_word (codes "FILE"))

-- --plan PLAN, --day DAY, --agent A and --stock FIRST-LAST
abbrev pub with_setting : App → App
with_setting a =
    with_rule (with_rule (with_rule (with_rule a (some_option (codes "plan"))) (needed_option (codes "day"))) (needed_option (codes "agent"))) (some_option (codes "stock"))

-- --file EARLIER, --closed PERIOD and --statement PERIOD
abbrev pub with_earlier : App → App
with_earlier a =
    with_rule (with_rule (with_rule a (repeated_option (codes "file"))) (repeated_option (codes "closed"))) (named_option (codes "statement"))

-- judge FILE, what it is judged over, and what comes before it
abbrev pub judge_app : App
judge_app = with_rule (with_earlier (with_setting (new_app (codes "judge")))) (wanted_word (codes "FILE"))

-- and the value is a number from the least to the most
abbrev pub number_option : Text → ℕ → ℕ → Rule
number_option id least most = record (named_option id) { parser = Some (Signed (pos least) (pos most)) }

-- --token T and --token-file FILE
abbrev pub with_tokens : App → App
with_tokens a = with_rule (with_rule a (named_option (codes "token"))) (named_option (codes "token-file"))

-- --db FILE
abbrev pub with_db : App → App
with_db a = with_rule a (named_option (codes "db"))

abbrev pub run_app : App
run_app = with_db (with_tokens (new_app (codes "run")))

abbrev pub port_rule : Rule
port_rule = record (number_option (codes "port") 1 65535) { required = true }

-- the number that it has where it is absent
abbrev pub limit_option : Text → ℕ → ℕ → Text → Rule
limit_option id least most default = record (number_option id least most) { defaults = default ∷ [] }

abbrev pub connections_rule : Rule
connections_rule = limit_option (codes "connections") 1 1000000 (codes "1000000")

abbrev pub peers_rule : Rule
peers_rule = limit_option (codes "peers") 1 10000 (codes "256")

-- the seconds that a message may take; 0 is without end
abbrev pub timeout_rule : Rule
timeout_rule = limit_option (codes "timeout") 0 3600 (codes "30")

-- the seconds between messages; 0 is without end
abbrev pub idle_rule : Rule
idle_rule = limit_option (codes "idle") 0 3600 (codes "60")

-- --connections K, --peers N, --timeout S, --idle S and --log
abbrev pub with_limits : App → App
with_limits a = with_rule (with_rule (with_rule (with_rule (with_rule a connections_rule) peers_rule) timeout_rule) idle_rule) (flag_rule (codes "log"))

abbrev pub serve_app : App
serve_app = with_limits (with_db (with_tokens (with_rule (new_app (codes "serve")) port_rule)))

-- a subcommand must be there, or --version is asked for; and none is called help
abbrev pub needs_subcommand : Shape → Shape
needs_subcommand s = record s { has_version = true; subcommand_required = true; disable_help_subcommand = true }

-- the commands, in the order of the help
abbrev pub file_shapes : List Shape
file_shapes = check_app.top ∷ hotcheck_app.top ∷ judge_app.top ∷ []

abbrev pub text_shapes : List Shape
text_shapes = plan_app.top ∷ body_app.top ∷ explain_app.top ∷ []

abbrev pub book_shapes : List Shape
book_shapes = audit_app.top ∷ run_app.top ∷ serve_app.top ∷ []

abbrev pub office_shapes : List Shape
office_shapes = file_shapes ++ text_shapes ++ book_shapes

abbrev pub office : App
office = with_subcommands (on_top needs_subcommand (new_app (codes "bsp_office"))) office_shapes

-- ---- the work

-- the token, or the file that has it
pub data AskedToken : Type 0 where
  given : Text → AskedToken
  in_file : Text → AskedToken

abbrev pub token_of : TokenSource → AskedToken
token_of (source.Given token) = given token
token_of (source.File file) = in_file file.now

-- the book in memory, or the file that has it
pub data AskedBook : Type 0 where
  in_memory : AskedBook
  stored_in : Text → AskedBook

abbrev pub book_of : BookSource → AskedBook
book_of kept.Memory = in_memory
book_of (kept.File file) = stored_in file.now

abbrev pub texts_in : List (Bor Text) → List Text
texts_in = map (λ text. text.now)

-- what a file is judged over: the plan texts, the business day, the agent, its ranges, what comes before, and whose statement is printed
pub record AskedSetting : Type 0 where
  pub plans : List Text
  pub day : CivilDay
  pub agent : ℕ
  pub stock : List Range
  pub files : List Text
  pub earlier : List Earlier
  pub statement : Option ℕ

abbrev pub setting_of : Setting → AskedSetting
setting_of s =
    record {
      plans = texts_in s.plans.items;
      day = s.day;
      agent = s.agent;
      stock = s.stock.items;
      files = texts_in s.files.items;
      earlier = s.earlier.items;
      statement = s.statement;
    }

-- a command with its values, as texts and numbers
pub data AskedWork : Type 0 where
  judge : AskedSetting → Text → AskedWork
  plan : Text → List Text → Option CivilDay → AskedWork
  plan_of : Text → AskedWork
  body : Text → Text → AskedWork
  explain : Option Text → AskedWork
  check : Text → Bool → AskedWork
  hotcheck : Text → Bool → Bool → AskedWork
  audit : Text → AskedWork
  run : AskedToken → AskedBook → AskedWork
  serve : ℕ → AskedToken → AskedBook → Limits → Bool → AskedWork

abbrev pub work_of : Work → AskedWork
work_of (Check file quiet) = check file.now quiet
work_of (Hotcheck file quiet list) = hotcheck file.now quiet list
work_of (Judge setting file) = judge (setting_of setting) file.now
work_of (Plan file published day) = plan file.now (texts_in published.items) day
work_of (PlanOf book) = plan_of book.now
work_of (Body request file) = body request.now file.now
work_of (Explain code) = explain (option_map (λ c. c.now) code)
work_of (Audit file) = audit file.now
work_of (Run token book) = run (token_of token) (book_of book)
work_of (Serve port token book limits log) = serve port (token_of token) (book_of book) limits log

-- a flag is there: `clap` then finds the value true
abbrev pub is_set : Text → List Row → Bool
is_set id rows = option_map_or (λ text. bytes_eq text (codes "true")) (first_of id rows) false

-- the work of each subcommand by what was found behind it, where each value is in its form
abbrev pub check_work : List Row → Option AskedWork
check_work rows = option_map (λ file. check file (is_set (codes "quiet") rows)) (first_of (codes "FILE") rows)

abbrev pub hotcheck_work : List Row → Option AskedWork
hotcheck_work rows =
    option_map (λ file. hotcheck file (is_set (codes "quiet") rows) (is_set (codes "list") rows)) (first_of (codes "FILE") rows)

-- the values of an option that may come more than once
abbrev pub values_in : Text → List Row → List Text
values_in id rows = unwrap_or (all_of id rows) []

-- each text is read, or nothing is
abbrev pub all_read : {X : Type 0} → (Text → Option X) → List Text → Option (List X)
all_read read [] = Some []
all_read read (text ∷ texts) = option_and_then (λ x. option_map (λ xs. x ∷ xs) (all_read read texts)) (read text)

-- what is read of a text, if there is one
abbrev pub read_if_any : {X : Type 0} → (Text → Option X) → Option Text → Option (Option X)
read_if_any read None = Some None
read_if_any read (Some text) = option_map Some (read text)

abbrev pub explain_work : List Row → Option AskedWork
explain_work rows = Some (explain (first_of (codes "CODE") rows))

abbrev pub body_work : List Row → Option AskedWork
body_work rows = option_and_then (λ request. option_map (body request) (first_of (codes "FILE") rows)) (first_of (codes "REQUEST") rows)

abbrev pub day_of : Text → Option CivilDay
day_of text = result_ok (text_reading text)

abbrev pub agent_of : Text → Option ℕ
agent_of text = result_ok (agent_reading text)

abbrev pub period_of : Text → Option ℕ
period_of text = result_ok (code_reading 5 text)

-- a text over those published before, on its day
abbrev pub plan_text_work : Text → List Row → Option AskedWork
plan_text_work file rows = option_map (plan file (values_in (codes "after") rows)) (read_if_any day_of (first_of (codes "day") rows))

-- the plan of a book. No text was published before, there is no day, and no file is called -
abbrev pub plan_of_work : Text → List Row → Option AskedWork
plan_of_work book rows =
    if bytes_eq book (codes "-") || is_some (all_of (codes "after") rows) || is_some (first_of (codes "day") rows) then None else Some (plan_of book)

-- exactly one of the file and the book is there
abbrev pub plan_from : Option Text → Option Text → List Row → Option AskedWork
plan_from (Some file) None rows = plan_text_work file rows
plan_from None (Some book) rows = plan_of_work book rows
plan_from _ _ rows = None

abbrev pub plan_work : List Row → Option AskedWork
plan_work rows = plan_from (first_of (codes "FILE") rows) (first_of (codes "of") rows) rows

-- ten digits, a minus, and ten digits
abbrev pub first_number : Text → Option ℕ
first_number text = result_ok (code_reading 10 (take 10 text))

abbrev pub last_number : Text → Option ℕ
last_number text = result_ok (code_reading 10 (drop 11 text))

abbrev pub is_range : Text → Bool
is_range text = (length text == 21) && (get_or text 10 0 == 45)

abbrev pub range_of : Text → Option Range
range_of text =
    if is_range text then option_and_then (λ first. option_map (λ last. record { first = first; last = last }) (last_number text)) (first_number text)
    else None

-- the files and the closes in the order of the words
abbrev pub earlier_in : List Text → List Row → Option (List Earlier)
earlier_in words rows = option_map (in_order (marks_in words)) (all_read period_of (values_in (codes "closed") rows))

-- the lists of a setting
pub record AskedLists : Type 0 where
  pub plans : List Text
  pub stock : List Range
  pub files : List Text
  pub earlier : List Earlier

abbrev pub no_lists : AskedLists
no_lists = record { plans = []; stock = []; files = []; earlier = [] }

abbrev pub lists_of : Setting → AskedLists
lists_of s = record { plans = texts_in s.plans.items; stock = s.stock.items; files = texts_in s.files.items; earlier = s.earlier.items }

-- these lists with the day, the agent and the statement of a setting
abbrev pub with_lists : AskedLists → Setting → AskedSetting
with_lists lists s =
    record {
      plans = lists.plans;
      day = s.day;
      agent = s.agent;
      stock = lists.stock;
      files = lists.files;
      earlier = lists.earlier;
      statement = s.statement;
    }

abbrev pub setting_from : AskedLists → List Row → Option AskedSetting
setting_from lists rows =
    option_and_then (λ day.
    option_and_then (λ agent.
    option_map (λ statement.
    record { plans = lists.plans; day = day; agent = agent; stock = lists.stock; files = lists.files; earlier = lists.earlier; statement = statement })
    (read_if_any period_of (first_of (codes "statement") rows)))
    (option_and_then agent_of (first_of (codes "agent") rows)))
    (option_and_then day_of (first_of (codes "day") rows))

abbrev pub lists_in : List Text → List Row → Option AskedLists
lists_in words rows =
    option_and_then (λ stock.
    option_map (λ earlier. record { plans = values_in (codes "plan") rows; stock = stock; files = values_in (codes "file") rows; earlier = earlier })
    (earlier_in words rows))
    (all_read range_of (values_in (codes "stock") rows))

abbrev pub setting_in : List Text → List Row → Option AskedSetting
setting_in words rows = option_and_then (λ lists. setting_from lists rows) (lists_in words rows)

abbrev pub judge_work : List Text → List Row → Option AskedWork
judge_work words rows = option_and_then (λ file. option_map (λ setting. judge setting file) (setting_in words rows)) (first_of (codes "FILE") rows)

-- no file of a book is called -
abbrev pub audit_of : Text → Option AskedWork
audit_of file = if bytes_eq file (codes "-") then None else Some (audit file)

abbrev pub audit_work : List Row → Option AskedWork
audit_work rows = option_and_then audit_of (first_of (codes "FILE") rows)

-- exactly one of the two options gives the token; no file is called -
abbrev pub token_from : Option Text → Option Text → Option AskedToken
token_from (Some text) None = option_map given (token_reading text)
token_from None (Some file) = if bytes_eq file (codes "-") then None else Some (in_file file)
token_from _ _ = None

abbrev pub asked_token : List Row → Option AskedToken
asked_token rows = token_from (first_of (codes "token") rows) (first_of (codes "token-file") rows)

-- the book is in memory where no file is named; no file is called -
abbrev pub book_from : Option Text → Option AskedBook
book_from None = Some in_memory
book_from (Some file) = if bytes_eq file (codes "-") then None else Some (stored_in file)

abbrev pub asked_book : List Row → Option AskedBook
asked_book rows = book_from (first_of (codes "db") rows)

abbrev pub run_work : List Row → Option AskedWork
run_work rows = option_and_then (λ token. option_map (λ book. run token book) (asked_book rows)) (asked_token rows)

-- the number of k bits that a text writes in digits, a plus in front of them or not
abbrev pub number_read : ℕ → Text → Option ℕ
number_read k text =
    let digits = without_leading_plus text in
    if is_numeral digits && nat_lt (digits_value 10 digits) (2 ^ k) then Some (digits_value 10 digits) else None

abbrev pub number_in : ℕ → Text → List Row → Option ℕ
number_in k id rows = option_and_then (number_read k) (one_of id rows)

abbrev pub limits_in : List Row → Option Limits
limits_in rows =
    option_and_then
    (λ connections. option_and_then
    (λ peers. option_and_then (λ timeout. option_map (λ idle. record { connections = connections; peers = peers; timeout = timeout; idle = idle }) (number_in 32 (codes "idle") rows)) (number_in 32 (codes "timeout") rows))
    (number_in 32 (codes "peers") rows))
    (number_in 32 (codes "connections") rows)

abbrev pub serve_work : List Row → Option AskedWork
serve_work rows =
    option_and_then
    (λ port. option_and_then
    (λ limits. option_and_then (λ token. option_map (λ book. serve port token book limits (is_set (codes "log") rows)) (asked_book rows)) (asked_token rows))
    (limits_in rows))
    (number_in 16 (codes "port") rows)

-- the work of a command whose values make no list
unfoldable pub single_in : Text → List Row → Option AskedWork
single_in name rows =
    if bytes_eq name (codes "check") then check_work rows
    else if bytes_eq name (codes "hotcheck") then hotcheck_work rows
    else if bytes_eq name (codes "audit") then audit_work rows
    else if bytes_eq name (codes "run") then run_work rows
    else if bytes_eq name (codes "serve") then serve_work rows
    else if bytes_eq name (codes "body") then body_work rows
    else if bytes_eq name (codes "explain") then explain_work rows
    else None

unfoldable pub work_in : List Text → Text → List Row → Option AskedWork
work_in words name rows =
    if bytes_eq name (codes "judge") then judge_work words rows
    else if bytes_eq name (codes "plan") then plan_work rows
    else single_in name rows

-- a command by its name
unfoldable pub command_named : Text → Option CommandName
command_named name =
    if bytes_eq name (codes "judge") then Some command.Judge
    else if bytes_eq name (codes "plan") then Some command.Plan
    else if bytes_eq name (codes "check") then Some (command.Single single.Check)
    else if bytes_eq name (codes "hotcheck") then Some (command.Single single.Hotcheck)
    else if bytes_eq name (codes "audit") then Some (command.Single single.Audit)
    else if bytes_eq name (codes "run") then Some (command.Single single.Run)
    else if bytes_eq name (codes "serve") then Some (command.Single single.Serve)
    else if bytes_eq name (codes "body") then Some (command.Single single.Body)
    else if bytes_eq name (codes "explain") then Some (command.Single single.Explain)
    else None

-- the work of a command
abbrev pub single_work : SingleName → List Row → Option AskedWork
single_work single.Check rows = check_work rows
single_work single.Hotcheck rows = hotcheck_work rows
single_work single.Audit rows = audit_work rows
single_work single.Run rows = run_work rows
single_work single.Serve rows = serve_work rows
single_work single.Body rows = body_work rows
single_work single.Explain rows = explain_work rows

abbrev pub command_work : List Text → List Row → CommandName → Option AskedWork
command_work words rows command.Judge = judge_work words rows
command_work words rows command.Plan = plan_work rows
command_work words rows (command.Single name) = single_work name rows

abbrev pub work_from : List Text → Option (Text × List Row) → Option AskedWork
work_from words = option_and_then (λ p. work_in words p.0 p.1)

-- the work that is asked for by what `clap` finds in the words
abbrev pub asked : List Text → Option AskedWork
asked words = work_from words (subcommand_of office words)

-- ---- the answer to the words

-- Work is given where `clap` takes the words and each value is in its form. Else `clap` refuses the words, for a reason
-- that it has for them or for want of memory, or it takes them and a value is out of its form.
abbrev pub AnswersWords : List Text → Result Work WordsFault → Type 0
AnswersWords words (Ok work) = (fault_of office words ≡ []) × (asked words ≡ Some (work_of work))
AnswersWords words (Err (Refused e)) = HasKind (fault_of office words) e
AnswersWords words (Err NoRoom) = Unit {0}
AnswersWords words (Err (OutOfForm misfit)) =
    (fault_of office words ≡ []) × ((p : Text × List Row) × (subcommand_of office words ≡ Some p) × (work_in words p.0 p.1 ≡ None))
