-- A manifest of at most 54 groups is short.
use Rattle.std.proofs.Common.{◌≡◌, inl, inr, ◌≤◌, ◌<◌, ◌+◌, ◌*◌, ◌^◌, ◌/◌, ◌%◌, ℕ, zero, suc, List, [], ◌∷◌, ◌++◌, length, codes, decimal, ap, length-append, arith}
use Rattle.std.proofs.lemmas.Bool.{cases_lt}
use Rattle.std.proofs.lemmas.Fmt.{decimal_digit, decimal_step}
use Rattle.workload.specs.Workload.{package_line, file_line, service_line, group_lines, groups, shared_lines, manifest_text}

-- two texts joined are no longer than the bounds of both together
joined : (a b : List ℕ) (m n : ℕ) → length a ≤ m → length b ≤ n → length (a ++ b) ≤ m + n
joined a b m n h k = let both : length (a ++ b) ≡ length a + length b = length-append a b in omega (arith, both, h, k)

-- a number below 100 has two digits at most
two_digits : (i : ℕ) → i < 100 → length (decimal i) ≤ 2
two_digits i small = elim (cases_lt i 10) [
  | inl one ↦ (let is : length (decimal i) ≡ 1 = ap length (decimal_digit i one) in omega (arith, is))
  | inr more ↦
      let front : length (decimal (i / 10)) ≡ 1 = ap length (decimal_digit (i / 10) (omega (arith, small))) in
      let is : length (decimal i) ≡ length (decimal (i / 10) ++ (48 + i % 10) ∷ []) = ap length (decimal_step i more (omega (arith, small))) in
      let two : length (decimal (i / 10) ++ (48 + i % 10) ∷ []) ≡ length (decimal (i / 10)) + 1 = length-append (decimal (i / 10)) ((48 + i % 10) ∷ []) in
      omega (arith, is, two, front)
]

-- a number behind a text, and a text behind that
numbered : (a b : List ℕ) (i m n : ℕ) → i < 100 → length a ≤ m → length b ≤ n → length (a ++ (decimal i ++ b)) ≤ m + (2 + n)
numbered a b i m n small h k = joined a (decimal i ++ b) m (2 + n) h (joined (decimal i) b 2 n (two_digits i small) k)

-- the line of a package is short
package_short : (i : ℕ) → i < 100 → length (package_line i) ≤ 100
package_short i small =
    let is = numbered (codes "package { 'p") (codes "': }\n") i 12 5 small (omega arith) (omega arith) in omega (arith, is)

-- and so is that of its file
file_short : (i : ℕ) → i < 100 → length (file_line i) ≤ 200
file_short i small =
    let last = numbered (codes "', require => Package['p") (codes "'] }\n") i 24 5 small (omega arith) (omega arith) in
    let more = numbered (codes "/p.conf': content => '") (codes "', require => Package['p" ++ (decimal i ++ codes "'] }\n")) i 22 31 small (omega arith) last in
    let is = numbered (codes "file { '/opt/p") (codes "/p.conf': content => '" ++ (decimal i ++ (codes "', require => Package['p" ++ (decimal i ++ codes "'] }\n")))) i 14 55 small (omega arith) more in
    omega (arith, is)

-- and that of its service
service_short : (i : ℕ) → i < 100 → length (service_line i) ≤ 200
service_short i small =
    let last = numbered (codes "': ensure => running, require => Package['p") (codes "'] }\n") i 43 5 small (omega arith) (omega arith) in
    let is = numbered (codes "service { 'svc") (codes "': ensure => running, require => Package['p" ++ (decimal i ++ codes "'] }\n")) i 14 50 small (omega arith) last in
    omega (arith, is)

-- and the lines of a group
group_short : (i : ℕ) → i < 100 → length (group_lines i) ≤ 500
unfolding group_lines
group_short i small =
    let is = joined (package_line i) (file_line i ++ service_line i) 100 400 (package_short i small) (joined (file_line i) (service_line i) 200 200 (file_short i small) (service_short i small)) in
    omega (arith, is)

-- the lines of n groups are at most n times as long
groups_short : (n : ℕ) → n < 100 → length (groups n) ≤ 500 * n
groups_short zero small = omega arith
groups_short (suc n) small =
    let is = joined (groups n) (group_lines (suc n)) (500 * n) 500 (groups_short n (omega (arith, small))) (group_short (suc n) small) in
    omega (arith, is)

-- the manifest of a workload has fewer bytes than a place of four bytes can count
pub manifest_short : (n : ℕ) → n ≤ 54 → length (manifest_text n) < 2 ^ 32
manifest_short n small =
    let is = joined (groups n) shared_lines (500 * n) 200 (groups_short n (omega (arith, small))) (omega arith) in
    omega (arith, is, small)
