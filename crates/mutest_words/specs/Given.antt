-- What the words behind a command's name give, by the walk of clap: a row for each option and for
-- each plain word that stands there (this project's own).
use Rattle.std.specs.Prelude.{◌≡◌, Bool, true, false, ◌&&◌, ◌||◌, ◌==◌, nat_eq, List, [], ◌∷◌, length, map, codes}
use Rattle.std.specs.Prelude.{Option, Some, None, is_none, option_map, if◌then◌else◌}
use Rattle.std.specs.List.{list_all, list_any, starts_with, ends_with}
use Rattle.std.specs.Borrow.{Bor}
use Rattle.std.specs.Cmp.Lexicographic.{pointwise}
use Rattle.clap.specs.Words.{App, Row, Rule, Text, fault_of, first_of, found_of, matches_of, new_app, new_rule, rows_of, with_rule}
use Rattle.clap.specs.declared.parser.matches.ArgMatches.{ArgMatches}
use Rattle.clap.specs.declared.builder.action.ArgAction.TheVariants.{Set, SetTrue}

abbrev pub is_word : Text → Text → Bool
is_word word text = pointwise nat_eq word text

abbrev pub texts : List (Bor Text) → List Text
texts words = map (λ w. w.now) words

-- ---- what clap is told of a command

-- an option with one value, a plain word, and a flag, which has none
abbrev pub option_rule : Text → Rule
option_rule name = record (new_rule name) { long = Some name; action = Some Set }

abbrev pub plain_rule : Text → Rule
plain_rule name = record (new_rule name) { action = Some Set }

abbrev pub flag_rule : Text → Rule
flag_rule name = record (new_rule name) { long = Some name; action = Some SetTrue }

-- No word asks for help or for a version.
abbrev pub bare_app : App
bare_app = record (new_app []) {
  top = record (new_app []).top {
    no_binary_name = true;
    disable_help_flag = true;
    disable_version_flag = true;
  };
}

abbrev pub with_all : App → List Rule → App
with_all app [] = app
with_all app (rule ∷ rules) = with_all (with_rule app rule) rules

-- A command has plain words, options and flags, by their names.
abbrev pub app_with : List Text → List Text → List Text → App
app_with plain options flags =
    with_all
    (with_all (with_all bare_app (map plain_rule plain)) (map option_rule options))
    (map flag_rule flags)

-- ---- what words give

-- No command has an empty word, the word `--`, or an option with nothing behind its `=`.
abbrev pub is_refused : Text → Bool
is_refused word =
    length word == 0
    || (is_word word (codes "--")
    || (starts_with nat_eq word (codes "--") && ends_with nat_eq word (codes "=")))

abbrev pub if_none : {A B : Type 0} → List A → B → Option B
if_none [] b = Some b
if_none (x ∷ xs) b = None

-- the rows of words that are options, flags and plain words of the command, each once at most
unfoldable pub read : App → List Text → Option (List Row)
read app words = if_none (fault_of app words) (matches_of app words)

-- What words give, where none of them is refused.
abbrev pub given : App → List Text → Option (List Row)
given app words = if list_any is_refused words then None else read app words

-- None of these options stands there.
abbrev pub lacks : List Text → List Row → Bool
lacks names rows = list_all (λ name. is_none (first_of name rows)) names

-- A flag stands there: its value is the text `true`. Else it is `false`.
abbrev pub is_true : Option Text → Bool
is_true None = false
is_true (Some value) = is_word value (codes "true")

abbrev pub is_set : Text → List Row → Bool
is_set name rows = is_true (first_of name rows)

-- The code reads the stated rows, if there are any.
abbrev pub GivesRows : Option (List Row) → Option ArgMatches → Type 0
GivesRows stated result = option_map (λ m. rows_of (found_of m)) result ≡ stated
