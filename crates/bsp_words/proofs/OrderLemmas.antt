-- The order of options among the words, and lists of values that are read.
use Rattle.std.proofs.Common.{◌≡◌, ◌∙◌, ◌++◌, ◌+◌, ◌<◌, ℕ, List, [], ◌∷◌, Option, Some, None, ap, append_assoc, drop, get_or, length, map, option_map, refl, sym}
use Rattle.std.specs.Prelude.{codes, is_some}
use Rattle.std.specs.Borrow.{Bor}
use Rattle.std.proofs.lemmas.List.{at_drop_more}
use Rattle.clap.specs.Words.{Row, Text, first_of}
use Rattle.bsp_words.specs.CommandLine.{AskedLists, all_read, judge, judge_work, lists_in, lists_of, setting_from, setting_of, texts_in, with_lists}
use Rattle.bsp_words.specs.Order.{as_list, in_order, mark_of, marks_in}
use Rattle.bsp_words.specs.declared.order.Mark.{Mark}
use Rattle.bsp_words.specs.declared.work.Earlier.{Earlier}
use Rattle.bsp_words.specs.declared.work.Setting.{Setting}

marks_of_one : (word : Text) (o : Option Mark) (rest : List Text) → o ≡ mark_of word → marks_in (word ∷ rest) ≡ as_list o ++ marks_in rest
marks_of_one word o rest is = rw is (go (mark_of word) refl)
  where
    go : (m : Option Mark) → mark_of word ≡ m → marks_in (word ∷ rest) ≡ as_list m ++ marks_in rest
    go None none = rw none refl
    go (Some m) some = rw some refl

-- what comes of the words before a place, and of the one there
pub step_more : {X : Type 0} (f : X → Text) (words : List X) (closed : List ℕ) (i taken later : ℕ) (d : X) (whole earlier pushed : List Earlier) (mark : Option Mark) (next : Option Earlier) → i < length words → mark ≡ mark_of (f (get_or words i d)) → whole ≡ earlier ++ in_order (marks_in (map f (drop i words))) (drop taken closed) → ((rest : List Mark) → in_order (as_list mark ++ rest) (drop taken closed) ≡ as_list next ++ in_order rest (drop later closed)) → pushed ≡ earlier ++ as_list next → whole ≡ pushed ++ in_order (marks_in (map f (drop (i + 1) words))) (drop later closed)
step_more f words closed i taken later d whole earlier pushed mark next within is was step added =
    let rest = marks_in (map f (drop (i + 1) words)) in
    was
    ∙ at_drop_more (λ l. earlier ++ in_order (marks_in (map f l)) (drop taken closed)) words i d within
    ∙ ap (λ l. earlier ++ in_order l (drop taken closed)) (marks_of_one (f (get_or words i d)) mark (map f (drop (i + 1) words)) is)
    ∙ ap (λ l. earlier ++ l) (step rest)
    ∙ sym (append_assoc earlier (as_list next) (in_order rest (drop later closed)))
    ∙ ap (λ l. l ++ in_order rest (drop later closed)) (sym added)

-- the values that are read before a place, and what is read behind it
pub read_one : {X : Type 0} (read : Text → Option X) (items : List X) (text : Bor Text) (x : X) (rest : List (Bor Text)) (whole : Option (List X)) → Some x ≡ read text.now → whole ≡ option_map (λ xs. items ++ xs) (all_read read (texts_in (text ∷ rest))) → whole ≡ option_map (λ xs. (items ++ x ∷ []) ++ xs) (all_read read (texts_in rest))
read_one read items text x rest whole is was = was ∙ rw (← is) (go (all_read read (texts_in rest)))
  where
    go : (more : Option (List _)) → option_map (λ xs. items ++ xs) (option_map (λ xs. x ∷ xs) more) ≡ option_map (λ xs. (items ++ x ∷ []) ++ xs) more
    go None = refl
    go (Some xs) = ap Some (sym (append_assoc items (x ∷ []) xs))

pub read_none : {X : Type 0} (read : Text → Option X) (items : List X) (text : Bor Text) (rest : List (Bor Text)) (whole : Option (List X)) → None ≡ read text.now → whole ≡ option_map (λ xs. items ++ xs) (all_read read (texts_in (text ∷ rest))) → None ≡ whole
read_none read items text rest whole is was = sym (was ∙ rw (← is) refl)

pub read_more : {X : Type 0} (read : Text → Option X) (items : List X) (texts : List (Bor Text)) (i : ℕ) (d : Bor Text) (x : X) (whole : Option (List X)) → i < length texts → Some x ≡ read (get_or texts i d).now → whole ≡ option_map (λ xs. items ++ xs) (all_read read (texts_in (drop i texts))) → whole ≡ option_map (λ xs. (items ++ x ∷ []) ++ xs) (all_read read (texts_in (drop (i + 1) texts)))
read_more read items texts i d x whole within is was =
    read_one read items (get_or texts i d) x (drop (i + 1) texts) whole is (was ∙ at_drop_more (λ rest. option_map (λ xs. items ++ xs) (all_read read (texts_in rest))) texts i d within)

pub read_no_more : {X : Type 0} (read : Text → Option X) (items : List X) (texts : List (Bor Text)) (i : ℕ) (d : Bor Text) (whole : Option (List X)) → i < length texts → None ≡ read (get_or texts i d).now → whole ≡ option_map (λ xs. items ++ xs) (all_read read (texts_in (drop i texts))) → None ≡ whole
read_no_more read items texts i d whole within is was =
    read_none read items (get_or texts i d) (drop (i + 1) texts) whole is (was ∙ at_drop_more (λ rest. option_map (λ xs. items ++ xs) (all_read read (texts_in rest))) texts i d within)

-- a value is there where there are some
pub some_of : {X Y : Type 0} (f : X → Y) (o : Option X) (p : Option Y) → option_map f o ≡ p → is_some o ≡ is_some p
some_of f None p is = ap is_some is
some_of f (Some x) p is = ap is_some is

-- a setting that was made empty, and that has the lists then
pub judged : (words : List Text) (rows : List Row) (file : Text) (empty filled : Setting) → Some file ≡ first_of (codes "FILE") rows → ((lists : AskedLists) → Some (with_lists lists empty) ≡ setting_from lists rows) → ((lists : AskedLists) → with_lists lists filled ≡ with_lists lists empty) → Some (lists_of filled) ≡ lists_in words rows → Some (judge (setting_of filled) file) ≡ judge_work words rows
judged words rows file empty filled named singles same lists =
    rw (← named, ← lists, ← (singles (lists_of filled)), ← (same (lists_of filled))) refl
