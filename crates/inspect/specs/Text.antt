-- What the check program prints: RULES 15.2 and 15.3. The words of the second line are the program's own. 10 is the newline, 32 the space, 58 the colon.
-- Assumes nothing.
use Rattle.std.specs.Prelude.{ℕ, ◌≤◌, ◌≡◌, cond, List, ◌++◌, eqb, ltb, length, take, get_or}
use Rattle.std.proofs.Math.Option.{Option, some, none}
use Rattle.sets.specs.Sets.{size}
use Rattle.sets.specs.Words.{set_in}
use Rattle.rules.specs.Lists.{first}
use Rattle.rules.specs.Bytes.{fault_number, fault_place, limits_of, count_places, start, version_in, head_in, fault, header_bytes}
use Rattle.rules.specs.declared.Head.{Head}
use Rattle.rules.specs.declared.Spot.{Spot}
use Rattle.rules.specs.declared.Spot.TheVariants.{Row, Leavers, Missing}
use Rattle.rules.specs.declared.Letter.{Letter}
use Rattle.rules.specs.declared.Letter.TheVariants.{S1, S2, S3, S4, S5, S6, S7, S8}
use Rattle.rules.specs.declared.Fault.{Fault}
use Rattle.rules.specs.declared.Fault.TheVariants.{Mark, Version, Mode, Count, Length, Rule}
use Rattle.lines.specs.Text.{bytes}
use Rattle.lines.specs.Answer.{numeral, Puts}
use Rattle.inspect.specs.Input.{Left, FrontOf, AllCame}

-- ---- a sound book: "nine lines, `sound` and the head"

unfoldable pub mode_text : ℕ → List ℕ
mode_text m = cond (eqb m 0) (bytes "mode full\n") (bytes "mode delta\n")

unfoldable pub people_text : Head → List ℕ
people_text h =
    bytes "sound\n"
    ++ (mode_text h.mode.0
    ++ ((bytes "users " ++ numeral h.users.0 10)
    ++ (bytes "folders " ++ numeral h.resources.0 10)))

unfoldable pub layers_text : Head → List ℕ
layers_text h =
    (bytes "inner vertices " ++ numeral h.inner_vertices.0 10)
    ++ ((bytes "inner tokens " ++ numeral h.inner_tokens.0 10)
    ++ ((bytes "outer vertices " ++ numeral h.outer_vertices.0 10)
    ++ (bytes "outer tokens " ++ numeral h.outer_tokens.0 10)))

-- "`leavers N`, which says how many have left"
unfoldable pub leavers_text : Head → List ℕ
leavers_text h = bytes "leavers " ++ numeral (size (set_in h.leavers)) 10

unfoldable pub head_text : Head → List ℕ
head_text h = people_text h ++ (layers_text h ++ leavers_text h)

-- ---- any other bytes: "the first is `no K PLACE`, the number and the place of 9.10"

unfoldable pub refused_text : Fault → List ℕ
refused_text f = (bytes "no " ++ numeral (fault_number f) 32) ++ numeral (fault_place f) 10

-- "for 23 which count it is, and its limit", by the byte where the count starts
unfoldable pub limit_at : Head → ℕ → ℕ
limit_at h place = (get_or (limits_of h) (first (eqb place) count_places) (0, 0)).1

unfoldable pub count_words : ℕ → List ℕ
count_words place =
    cond (eqb place 6) (bytes "the count of users is over its limit, which is ")
    (cond (eqb place 7) (bytes "the count of folders is over its limit, which is ")
    (cond (eqb place 9) (bytes "the count of inner vertices is over its limit, users + folders, which is ")
    (cond (eqb place 11) (bytes "the count of inner tokens is over its limit, which is ")
    (cond (eqb place 13) (bytes "the count of outer vertices is over its limit, users + 448, which is ")
    (bytes "the count of outer tokens is over its limit, which is ")))))

unfoldable pub count_text : Head → ℕ → List ℕ
count_text h place = count_words place ++ numeral (limit_at h place) 10

-- "for 24 the length that it should have"
unfoldable pub header_text : List ℕ
header_text = bytes "wrong length: a header has 17 bytes\n"

unfoldable pub length_text : ℕ → Head → List ℕ
length_text v h = (bytes "wrong length: by its version and its counts the book has " ++ numeral (start v h 5) 32) ++ bytes "bytes\n"

-- "for 31 to 38 the section, the number of the row in it, and the rule"
unfoldable pub section_words : ℕ → List ℕ
section_words k =
    cond (eqb k 0) (bytes "inner vertex row ")
    (cond (eqb k 1) (bytes "inner token row ")
    (cond (eqb k 2) (bytes "outer vertex row ")
    (cond (eqb k 3) (bytes "outer token row ")
    (bytes "folder row "))))

unfoldable pub row_text : ℕ → ℕ → List ℕ
row_text k i = section_words k ++ numeral i 58

abbrev pub spot_text : Spot → List ℕ
spot_text (Row k i) = row_text k i
spot_text Leavers = bytes "the set of leavers:"
spot_text Missing = bytes "a joined user has no own vertex:"

abbrev pub rule_text : Letter → List ℕ
rule_text S1 = bytes " S1 is broken, numbers: kinds are 0 or 1, vertex numbers belong to vertices of that layer, sets and lists name only users who have joined, and no list names one who has left\n"
rule_text S2 = bytes " S2 is broken, own vertices: each joined user has one in each layer, no kind 0 or outer token leads to one, and no inner set is empty\n"
rule_text S3 = bytes " S3 is broken, sets differ: two vertices of one layer never have the same set\n"
rule_text S4 = bytes " S4 is broken, tokens rise: a kind 0 or outer token starts at a set with somebody in it, a proper part of the set it leads to\n"
rule_text S5 = bytes " S5 is broken, groups are made of what leads to them: a group's set is all the users in the sets from which kind 0 or outer tokens lead to it\n"
rule_text S6 = bytes " S6 is broken, kind 1: such a token starts at a user's own vertex and leads to a set that does not name this user, and no token row stands twice\n"
rule_text S7 = bytes " S7 is broken, lists are held: everybody on a folder's list holds its inner vertex\n"
rule_text S8 = bytes " S8 is broken, locks fit: in mode full each folder has an outer vertex with its list as set; in mode delta it has none exactly where the holders are the list, else such a one\n"

-- "the second says in English what is wrong there"
abbrev pub sentence : ℕ → Head → Fault → List ℕ
sentence v h Mark = bytes "the mark is not 54 4B 42 (\"TKB\"): this is no book, or its first bytes are spoilt\n"
sentence v h Version = bytes "the version is neither 1 nor 2\n"
sentence v h Mode = bytes "the mode is neither 0 (full) nor 1 (delta)\n"
sentence v h (Count place) = count_text h place
sentence v h (Length n) = cond (ltb n header_bytes) header_text (length_text v h)
sentence v h (Rule l s at) = spot_text s ++ rule_text l

unfoldable pub broken_text : ℕ → Head → Fault → List ℕ
broken_text v h f = refused_text f ++ sentence v h f

unfoldable pub answer_text : ℕ → Head → Option Fault → List ℕ
answer_text v h none = head_text h
answer_text v h (some f) = broken_text v h f

-- of the bytes that came in
unfoldable pub check_text : List ℕ → List ℕ
check_text bs = answer_text (version_in bs) (head_in bs) (fault bs)

-- ---- parts of the way there

-- the bytes have a header
abbrev pub Headed : Fault → Type 0
Headed Mark = Unit {0}
Headed Version = Unit {0}
Headed Mode = Unit {0}
Headed (Count place) = Unit {0}
Headed (Length n) = header_bytes ≤ n
Headed (Rule l s at) = Unit {0}

unfoldable pub short_text : ℕ → List ℕ
short_text n = refused_text (Length n) ++ header_text

-- a wrong length is that of the whole input
abbrev pub grown : ℕ → Fault → Fault
grown n Mark = Mark
grown n Version = Version
grown n Mode = Mode
grown n (Count place) = Count place
grown n (Length m) = Length n
grown n (Rule l s at) = Rule l s at

abbrev pub grown_by : ℕ → Option Fault → Option Fault
grown_by n none = none
grown_by n (some f) = some (grown n f)

-- for any input with this front and this length
abbrev pub Answers : List ℕ → ℕ → List ℕ → ℕ → List ℕ → Type 0
Answers front total out end now = (came : List ℕ) → FrontOf front total came → Puts (check_text came) 0 out end now

-- ---- the program: what it writes out is the text for all that came, whose front is in the input buffer

pub record Told (input : List ℕ) (end : ℕ) (out : List ℕ) (left rest : Left) : Type 0 where
  pub total : ℕ
  pub all : AllCame total input left rest
  pub within : end ≤ length out
  pub text : take end out ≡ check_text all.so_far.came
