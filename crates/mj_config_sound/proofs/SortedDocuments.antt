-- The tables of a document are sorted.
use Rattle.std.proofs.Common.{◌≡◌, ℕ, zero, suc, true, List, [], ◌∷◌, ◌++◌, length, drop, Some, None, option_map, option_and_then, refl, ◌&&◌}
use Rattle.std.specs.Prelude.{if◌then◌else◌, ◌==◌, slice_index}
use Rattle.toml_parser.specs.Lexical.{Read, first, skip_blank, skip_ws, right_bracket, right_brace, left_bracket, left_brace}
use Rattle.toml_parser.specs.Strings.{Key, quoted, starts_string, recursion_limit}
use Rattle.toml_parser.specs.Numbers.{unquoted}
use Rattle.toml_parser.specs.declared.scalar.Scalar.{Scalar}
use Rattle.toml_parser.specs.declared.scalar.Scalar.TheVariants.{Boolean, Integer, Float, Datetime}
use Rattle.toml.specs.Data.{Data, string, array, table, Items, no_items, Members, push_item, is_sorted, items_are_sorted, members_are_sorted}
use Rattle.toml.specs.Tables.{Nodes, no_nodes, close, Definition, key_value, std_table, array_table, Expression, Document, at_key, put, define_as, define}
use Rattle.toml.specs.Parse.{after_byte, after_element, key_equals, keyval, items, members, read_map, atom, scalar_data, val, header_key, expression, line, ends_line, lines, skip_bom, parse_document}
use Rattle.mj_config_sound.proofs.SortedNodes.{IfThere, none, there, whatever, mapped, and_then, either, AreSorted, IsSortedDefinition, pushed_sorted, along_header_kept, at_key_kept, put_kept}

-- ---- Values

-- a value that was read is sorted
record Reads (val : List ℕ → Read Data) : Type 0 where
  sorted : (text : List ℕ) → IfThere (λ read. is_sorted read.0 ≡ true) (val text)

module _ (val : List ℕ → Read Data) (h : Reads val) where
  items_sorted : (n : ℕ) (found : Items) (text : List ℕ) → items_are_sorted found ≡ true → IfThere (λ read. items_are_sorted read.0 ≡ true) (items val n found text)
  unfolding items
  items_sorted zero found text g = none
  items_sorted (suc n) found text g =
      either (first (skip_blank text) == right_bracket) (there (found, drop 1 (skip_blank text)) g)
      (and_then (λ v. option_and_then (items val n (push_item found v.0)) (after_element right_bracket v.1)) (h.sorted (skip_blank text)) (λ v s.
      and_then (items val n (push_item found v.0)) (whatever (after_element right_bracket v.1)) (λ rest _. items_sorted n (push_item found v.0) rest (pushed_sorted found v.0 g s))))

  keyval_sorted : (text : List ℕ) → IfThere (λ read. is_sorted read.0.1 ≡ true) (keyval val text)
  keyval_sorted text =
      and_then (λ k. read_map (λ d. (k.0, d)) (val k.1)) (whatever (key_equals text)) (λ k _.
      mapped (λ p. ((k.0, p.0), p.1)) (h.sorted k.1) (λ p s. s))

  members_sorted : (n : ℕ) (found : Nodes) (text : List ℕ) → AreSorted found → IfThere (λ read. members_are_sorted read.0 ≡ true) (members val n found text)
  unfolding members
  members_sorted zero found text g = none
  members_sorted (suc n) found text g =
      either (first (skip_blank text) == right_brace) (there (close found, drop 1 (skip_blank text)) g)
      (and_then (λ e. option_and_then (λ more. option_and_then (members val n more) (after_element right_brace e.1)) (put e.0.0 e.0.1 found)) (keyval_sorted (skip_blank text)) (λ e s.
      and_then (λ more. option_and_then (members val n more) (after_element right_brace e.1)) ((put_kept e.0.0 e.0.1 s).kept found g) (λ more t.
      and_then (members val n more) (whatever (after_element right_brace e.1)) (λ rest _. members_sorted n more rest t))))

scalar_sorted : (s : Scalar) → is_sorted (scalar_data s) ≡ true
scalar_sorted (Boolean b) = refl
scalar_sorted (Integer z) = refl
scalar_sorted (Float x) = refl
scalar_sorted (Datetime d) = refl

atom_sorted : (text : List ℕ) → IfThere (λ read. is_sorted read.0 ≡ true) (atom text)
unfolding atom
atom_sorted text =
    either (starts_string text) (mapped (λ p. (string p.0, p.1)) (whatever (quoted text)) (λ p _. refl))
    (mapped (λ p. (scalar_data p.0, p.1)) (whatever (unquoted text)) (λ p _. scalar_sorted p.0))

val_sorted : (depth : ℕ) (text : List ℕ) → IfThere (λ read. is_sorted read.0 ≡ true) (val depth text)
unfolding val
val_sorted zero text = atom_sorted text
val_sorted (suc depth) text =
    let inner : Reads (val depth) = record { sorted = λ text. val_sorted depth text } in
    either (first text == left_bracket) (mapped (λ p. (array p.0, p.1)) (items_sorted (val depth) inner (length text) no_items (drop 1 text) refl) (λ p s. s))
    (either (first text == left_brace) (mapped (λ p. (table p.0, p.1)) (members_sorted (val depth) inner (length text) no_nodes (drop 1 text) refl) (λ p s. s))
    (atom_sorted text))

-- ---- Lines

abbrev IsSortedExpression : Expression × List ℕ → Type 0
IsSortedExpression read = IsSortedDefinition read.0.1

expression_sorted : (text : List ℕ) → IfThere IsSortedExpression (expression text)
unfolding expression
expression_sorted text =
    either (first text == left_bracket && slice_index text 1 == left_bracket)
    (and_then (λ k. option_map (λ rest. ((k.0, array_table), rest)) (after_byte right_bracket k.1)) (whatever (header_key (drop 2 text))) (λ k _.
    mapped (λ rest. ((k.0, array_table), rest)) (whatever (after_byte right_bracket k.1)) (λ rest _. tt)))
    (either (first text == left_bracket) (mapped (λ p. ((p.0, std_table), p.1)) (whatever (header_key (drop 1 text))) (λ p _. tt))
    (mapped (λ p. ((p.0.0, key_value p.0.1), p.1)) (keyval_sorted (val recursion_limit) (record { sorted = λ text. val_sorted recursion_limit text }) text) (λ p s. s)))

line_sorted : (text : List ℕ) → IfThere IsSortedExpression (line text)
unfolding line
line_sorted text = and_then (λ e. if ends_line (skip_ws e.1) then Some e else None) (expression_sorted text) (λ e s. either (ends_line (skip_ws e.1)) (there e s) none)

define_sorted : (doc : Document) (k : Key) (what : Definition) → AreSorted doc.0 → IsSortedDefinition what → IfThere (λ doc. AreSorted doc.0) (define_as doc k what)
define_sorted doc k (key_value d) g s = mapped (λ root. (root, doc.1)) (along_header_kept doc.1 (put k d) (put_kept k d s) doc.0 g) (λ root t. t)
define_sorted doc k std_table g s = mapped (λ root. (root, k.0 ++ k.1 ∷ [])) (along_header_kept k.0 (at_key k.1 std_table) (at_key_kept k.1 std_table tt) doc.0 g) (λ root t. t)
define_sorted doc k array_table g s = mapped (λ root. (root, k.0 ++ k.1 ∷ [])) (along_header_kept k.0 (at_key k.1 array_table) (at_key_kept k.1 array_table tt) doc.0 g) (λ root t. t)

defined_sorted : (doc : Document) (e : Expression) → AreSorted doc.0 → IsSortedDefinition e.1 → IfThere (λ doc. AreSorted doc.0) (define doc e)
unfolding define
defined_sorted doc e g s = define_sorted doc e.0 e.1 g s

lines_sorted : (n : ℕ) (doc : Document) (text : List ℕ) → AreSorted doc.0 → IfThere (λ doc. AreSorted doc.0) (lines n doc text)
unfolding lines
lines_sorted zero doc text g = none
lines_sorted (suc n) doc text g =
    either (length (skip_blank text) == 0) (there doc g)
    (and_then (λ e. option_and_then (λ next. lines n next e.1) (define doc e.0)) (line_sorted (skip_blank text)) (λ e s.
    and_then (λ next. lines n next e.1) (defined_sorted doc e.0 g s) (λ next t. lines_sorted n next e.1 t)))

-- ---- Documents

pub parsed_sorted : (text : List ℕ) → IfThere (λ read. members_are_sorted read ≡ true) (parse_document text)
unfolding parse_document
parsed_sorted text = mapped (λ doc. close doc.0) (lines_sorted (suc (length text)) (no_nodes, []) (skip_bom text) refl) (λ doc s. s)

pub document_sorted : (text : List ℕ) (read : Members) → parse_document text ≡ Some read → members_are_sorted read ≡ true
document_sorted text read e = (parsed_sorted text).of read e
