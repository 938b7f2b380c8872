-- A manifest with its listing, of a size that is asked for.
use Rattle.std.specs.Prelude.{ℕ, zero, suc, List, [], ◌++◌, codes}
use Rattle.std.specs.Fmt.{decimal}

-- ---- the manifest

-- package i
abbrev pub package_line : ℕ → List ℕ
package_line i = codes "package { 'p" ++ (decimal i ++ codes "': }\n")

-- its file
abbrev pub file_line : ℕ → List ℕ
file_line i =
    codes "file { '/opt/p" ++ (decimal i ++ (codes "/p.conf': content => '" ++ (decimal i ++ (codes "', require => Package['p" ++ (decimal i ++ codes "'] }\n")))))

-- its service
abbrev pub service_line : ℕ → List ℕ
service_line i = codes "service { 'svc" ++ (decimal i ++ (codes "': ensure => running, require => Package['p" ++ (decimal i ++ codes "'] }\n")))

-- a package, a file of it and a service of it
unfoldable pub group_lines : ℕ → List ℕ
group_lines i = package_line i ++ (file_line i ++ service_line i)

-- those of 1 to n
abbrev pub groups : ℕ → List ℕ
groups zero = []
groups (suc n) = groups n ++ group_lines (suc n)

-- two packages with a file each, which share a folder
abbrev pub shared_lines : List ℕ
shared_lines =
    codes "package { 'alpha': }\nfile { '/etc/alpha.conf': content => 'a', require => Package['alpha'] }\npackage { 'beta': }\nfile { '/etc/beta.conf': content => 'b', require => Package['beta'] }\n"

-- the manifest of size n
abbrev pub manifest_text : ℕ → List ℕ
manifest_text n = groups n ++ shared_lines

-- ---- the listing

-- package i, as it is listed, with a comma behind it
abbrev pub listed_package : ℕ → List ℕ
listed_package i =
    codes "\"p" ++ (decimal i ++ (codes "\":{\"files\":[\"/opt/p" ++ (decimal i ++ (codes "/p.conf\",\"/lib/systemd/system/svc" ++ (decimal i
    ++ codes ".service\"],\"folders\":[]},")))))

-- those of 1 to n
abbrev pub listed_packages : ℕ → List ℕ
listed_packages zero = []
listed_packages (suc n) = listed_packages n ++ listed_package (suc n)

-- the listing of size n, in version 1
abbrev pub listing_text : ℕ → List ℕ
listing_text n =
    codes "{\"version\":1,\"packages\":{" ++ (listed_packages n
    ++ codes "\"alpha\":{\"files\":[\"/etc/alpha.conf\"],\"folders\":[]},\"beta\":{\"files\":[\"/etc/beta.conf\"],\"folders\":[]}}}")
