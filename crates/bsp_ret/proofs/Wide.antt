-- The lines of a file and of its groups: a group has a line at least, and each line has a record's width.
use Rattle.std.proofs.Common.{◌≡◌, ℕ, suc, ◌+◌, ◌<◌, ◌≤◌, Bool, true, List, [], ◌∷◌, ◌++◌, length, get_or, zero, Option, Some, None, IfSome, IsSomeAnd, option_to_list, refl, subst, ◌∙◌, arith}
use Rattle.std.specs.List.{list_all}
use Rattle.std.proofs.lemmas.Bool.{and_from}
use Rattle.std.proofs.lemmas.List.Folds.{list_all-append}
use Rattle.std.proofs.lemmas.Option.{IfSome_then}
use Rattle.bsp_ret_records.specs.declared.codes.FormOfPayment.{FormOfPayment}
use Rattle.bsp_ret_records.specs.declared.codes.TransactionCode.{TransactionCode}
use Rattle.bsp_ret_records.specs.declared.codes.TransactionCode.TheVariants.{Tktt, Rfnd, Canx}
use Rattle.bsp_fields.specs.Columns.{is_wide}
use Rattle.bsp_ret_records.specs.Records.{code_of, related_fits, amounts_fit}
use Rattle.bsp_ret.specs.Ret.{Group, File, flatten, forms_of, IsRecord, IsForm, IsPaid, AreRelated, HasBody, IsGroup, AreGroups, Ret}

abbrev AllWide : List (List ℕ) → Type 0
AllWide lines = list_all is_wide lines ≡ true

joined_wide : (xs ys : List (List ℕ)) → AllWide xs → AllWide ys → AllWide (xs ++ ys)
joined_wide xs ys p q = list_all-append is_wide xs ys ∙ and_from _ _ p q

maybe_wide : (o : Option (List ℕ)) → IfSome o (λ line. is_wide line ≡ true) → AllWide (option_to_list o)
maybe_wide None h = refl
maybe_wide (Some line) h = and_from _ _ h refl

related_wide : (n : ℕ) (related second : Option (List ℕ)) (rest : List (List ℕ)) → AreRelated n related second → AllWide rest → AllWide (option_to_list related ++ (option_to_list second ++ rest))
related_wide n None None rest h all = all
related_wide n (Some line) None rest h all = and_from _ _ h.wide all
related_wide n (Some line) (Some second) rest h all = and_from _ _ h.0.wide (and_from _ _ h.1.wide all)
related_wide n None (Some second) rest h all = absurd h

one_wide : (letter n : ℕ) (fits : List ℕ → Bool) (o : Option (List ℕ)) → IsSomeAnd o (IsRecord letter n fits) → AllWide (option_to_list o)
one_wide letter n fits None h = absurd h
one_wide letter n fits (Some line) h = maybe_wide (Some line) h.wide

form_wide : (n : ℕ) (kind : FormOfPayment) (o : Option (List ℕ)) → IfSome o (IsForm n kind) → AllWide (option_to_list o)
form_wide n kind o h = maybe_wide o (IfSome_then o h (λ line is. is.stands.wide))

paid_wide : (n : ℕ) (g : Group) → IsPaid n g → AllWide (option_to_list g.amounts ++ forms_of g)
paid_wide n g p = joined_wide _ _ (one_wide 53 n amounts_fit g.amounts p.amounts) (joined_wide _ _ (form_wide n _ g.cash p.cash) (joined_wide _ _ (form_wide n _ g.credit p.credit) (form_wide n _ g.exchange p.exchange)))

body_wide : (n : ℕ) (g : Group) (code : Option TransactionCode) → HasBody n g code → AllWide (option_to_list g.related ++ (option_to_list g.second ++ (option_to_list g.amounts ++ forms_of g)))
body_wide n g None body = absurd body
body_wide n g (Some Tktt) body = related_wide n g.related g.second _ body.0 (paid_wide n g body.2)
body_wide n g (Some Rfnd) body = joined_wide _ _ (one_wide 51 n related_fits g.related body.0) (rw body.1 (paid_wide n g body.3))
body_wide n g (Some Canx) body = rw (body.0, body.1, body.2, body.3) refl

-- the lines of a group
pub group_wide : (n : ℕ) (lines : List (List ℕ)) → IsGroup n lines → list_all is_wide lines ≡ true
group_wide n lines is = rw is.lines_are (and_from _ _ is.sale.wide (body_wide n is.group (code_of is.group.sale) is.body))

-- a group begins with its record 2
pub group_begins : (n : ℕ) (lines : List (List ℕ)) → IsGroup n lines → 1 ≤ length lines
group_begins n lines is = rw is.lines_are (omega arith)

-- a group of a file by its place
pub group_at : (groups : List (List (List ℕ))) (n i : ℕ) → AreGroups n groups → i < length groups → IsGroup (n + i) (get_or groups i [])
group_at [] n i are below = absurd (omega arith)
group_at (group ∷ groups) n zero are below = subst (λ (k : ℕ). IsGroup k group) (omega arith) are.0
group_at (group ∷ groups) n (suc i) are below = subst (λ (k : ℕ). IsGroup k (get_or groups i [])) (omega arith) (group_at groups (suc n) i are.1 (omega arith))

groups_wide : (groups : List (List (List ℕ))) (n : ℕ) → AreGroups n groups → AllWide (flatten groups)
groups_wide [] n are = refl
groups_wide (group ∷ groups) n are = joined_wide group (flatten groups) (group_wide n group are.0) (groups_wide groups (suc n) are.1)

-- the lines of a file
pub wide_all : (lines : List (List ℕ)) (f : File) → Ret lines f → list_all is_wide lines ≡ true
wide_all lines f ret = rw ret.lines_are (and_from _ _ ret.header.wide (joined_wide _ _ (groups_wide f.groups 1 ret.groups) (maybe_wide (Some f.trailer) ret.trailer.wide)))
