-- A published layout as data: a list of columns.
use Rattle.std.specs.Prelude.{ℕ, ◌+◌, ◌*◌, ◌^◌, ◌<◌, ◌≡◌, Bool, true, ◌&&◌, List, [], ◌∷◌, ◌++◌, map, eqb, leb, ltb, ℤ, pos, get_or}
use Rattle.numbers.specs.Bit.{digit}
use Rattle.octets.specs.Bytes.{nat_at, int_at, SignedFits, complemented, octets_of, part}
use Rattle.octets.specs.Table.{octets_at, nats_at, ints_at, octets_of_all}

-- whether the numbers of a column are unsigned or signed two's complement
pub data Sign : Type 0 where
  unsigned : Sign
  complement : Sign

-- a column: the index of its first byte, counted from 0, the bytes of each item, the number of items, and their sign
pub record Column : Type 0 where
  pub start : ℕ
  pub width : ℕ
  pub items : ℕ
  pub sign : Sign

-- a column of unsigned numbers
abbrev pub column : ℕ → ℕ → ℕ → Column
column s w n = record { start = s; width = w; items = n; sign = unsigned }

abbrev pub size : Column → ℕ
size c = c.width * c.items

-- each column starts where the one before it ends, the first at byte a, and the last ends before byte b
abbrev pub tiles : ℕ → ℕ → List Column → Bool
tiles a b [] = eqb a b
tiles a b (c ∷ cs) = eqb c.start a && tiles (a + size c) b cs

-- how many of the columns hold byte k
unfoldable pub holders : ℕ → List Column → ℕ
holders k [] = 0
holders k (c ∷ cs) = digit (leb c.start k && ltb k (c.start + size c)) + holders k cs

-- the columns lie one after the other over the bytes from 0 to n - 1, and each of these is in one of them
pub record Covers (n : ℕ) (cs : List Column) : Type 0 where
  pub in_order : tiles 0 n cs ≡ true
  pub once : (k : ℕ) → k < n → holders k cs ≡ 1

-- the type of a column's numbers, by its sign
abbrev pub Number : Sign → Type 0
Number unsigned = ℕ
Number complement = ℤ

-- the number in w bytes from index i on by the sign, and n of them
abbrev pub number_at : (g : Sign) → List ℕ → ℕ → ℕ → Number g
number_at unsigned s i w = nat_at s i w
number_at complement s i w = int_at s i w

abbrev pub numbers_at : (g : Sign) → List ℕ → ℕ → ℕ → ℕ → List (Number g)
numbers_at unsigned s i w n = nats_at s i w n
numbers_at complement s i w n = ints_at s i w n

-- the number in a column of one item, that of item k from 0, and those of all items
abbrev pub value : (s : List ℕ) (c : Column) → Number c.sign
value s c = number_at c.sign s c.start c.width

abbrev pub item : (s : List ℕ) (c : Column) (k : ℕ) → Number c.sign
item s c k = number_at c.sign s (c.start + c.width * k) c.width

abbrev pub values : (s : List ℕ) (c : Column) → List (Number c.sign)
values s c = numbers_at c.sign s c.start c.width c.items

-- the bytes of a column of bytes
abbrev pub octets_in : List ℕ → Column → List ℕ
octets_in s c = octets_at s c.start c.items

-- the w bytes of a number by the sign, and those of several numbers, one after the other
abbrev pub number_octets : (g : Sign) → ℕ → Number g → List ℕ
number_octets unsigned w x = octets_of w x
number_octets complement w z = octets_of w (complemented (8 * w) z)

abbrev pub numbers_octets : (g : Sign) → ℕ → List (Number g) → List ℕ
numbers_octets unsigned w xs = octets_of_all w xs
numbers_octets complement w zs = octets_of_all w (map (complemented (8 * w)) zs)

-- the bytes of a column of one item that holds a number, and of a column of several that holds numbers
abbrev pub holding : (c : Column) → Number c.sign → List ℕ
holding c x = number_octets c.sign c.width x

abbrev pub holding_all : (c : Column) → List (Number c.sign) → List ℕ
holding_all c xs = numbers_octets c.sign c.width xs

-- a number that w bytes hold by the sign, and numbers each of which they hold
abbrev pub Holds : (g : Sign) → ℕ → Number g → Type 0
Holds unsigned w x = x < 256 ^ w
Holds complement w z = SignedFits (8 * w) z

abbrev pub HoldsAll : (g : Sign) → ℕ → List (Number g) → Type 0
HoldsAll unsigned w xs = (k : ℕ) → get_or xs k 0 < 256 ^ w
HoldsAll complement w zs = (k : ℕ) → SignedFits (8 * w) (get_or zs k (pos 0))

-- the bytes cut into their columns, and columns joined to bytes
abbrev pub cut : List ℕ → List Column → List (List ℕ)
cut s [] = []
cut s (c ∷ cs) = part s c.start (size c) ∷ cut s cs

abbrev pub join : List (List ℕ) → List ℕ
join [] = []
join (p ∷ ps) = p ++ join ps
