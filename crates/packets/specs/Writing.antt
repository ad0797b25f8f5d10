-- The packet that leaves: one end's address and port replaced, the time to live less by some hops, and every sum worked out afresh.
use Rattle.std.specs.Prelude.{◌≡◌, ℕ, ◌-◌, ◌<◌, Bool, true, false, cond, ◌&&◌, List, ◌++◌, length, ◌==◌, slice_set}
use Rattle.sums.specs.Words.{word_at, put_word, put_long}
use Rattle.sums.specs.Sums.{fresh, nonzero, rest_sum}
use Rattle.mappings.specs.declared.event.Protocol.{Protocol}
use Rattle.mappings.specs.declared.event.Protocol.TheVariants.{Udp, Tcp, Echo}
use Rattle.packets.specs.declared.facts.End.{End}
use Rattle.packets.specs.declared.facts.Endpoint.{Endpoint}
use Rattle.packets.specs.Fields.{header_of, body_of, header_sum_at, time_to_live, ttl_at, address_at, port_at, sum_at, pseudo_sum}

-- the header, but for its sum
abbrev pub readdressed : ℕ → End → ℕ → List ℕ → List ℕ
readdressed hops e address h = put_long (slice_set h ttl_at (time_to_live h - hops)) (address_at e) address

abbrev pub sent_header : ℕ → End → ℕ → List ℕ → List ℕ
sent_header hops e address h = let g = readdressed hops e address h in put_word g header_sum_at (fresh (rest_sum 0 g header_sum_at))

-- what counts besides the body: a pseudo-header, but not for an echo
abbrev pub besides : Protocol → List ℕ → ℕ → ℕ
besides Udp h n = pseudo_sum h n
besides Tcp h n = pseudo_sum h n
besides Echo h n = 0

-- a UDP sum of 0 says that there is none, and so it stays
abbrev pub is_absent : Protocol → ℕ → Bool
is_absent Udp sum = sum == 0
is_absent Tcp sum = false
is_absent Echo sum = false

abbrev pub has_no_sum : Protocol → List ℕ → Bool
has_no_sum p b = is_absent p (word_at b (sum_at p))

abbrev pub spelled : Protocol → ℕ → ℕ
spelled Udp c = nonzero c
spelled Tcp c = c
spelled Echo c = c

-- what counts besides a body is more than nothing but for an echo, where it is nothing
abbrev pub Besides : Protocol → ℕ → Type 0
Besides Udp n = 0 < n
Besides Tcp n = 0 < n
Besides Echo n = n ≡ 0

-- whether a sum of 0 is to be sent as 65,535, where the words of a body, its sum being 0, add up to s:
-- with UDP 0 would say that there is no sum, and an echo of zeros alone has a fresh sum of 65,535
abbrev pub is_spelled_out : Protocol → ℕ → Bool
is_spelled_out Udp s = true
is_spelled_out Tcp s = false
is_spelled_out Echo s = s == 0

-- a moved sum c in the spelling in which it is sent, where the other words of the body, or of what is quoted of it, add up to s
abbrev pub respelled : Protocol → ℕ → ℕ → ℕ
respelled p c s = cond (c == 0 && is_spelled_out p s) 65535 c

-- how many bytes a body has at least
abbrev pub least_of : Protocol → ℕ
least_of Udp = 8
least_of Tcp = 20
least_of Echo = 8

-- the body; extra is what counts besides it
abbrev pub sent_body : Protocol → End → ℕ → ℕ → List ℕ → List ℕ
sent_body p e extra port b =
    let c = put_word b (port_at p e) port in
    cond (has_no_sum p b) c (put_word c (sum_at p) (spelled p (fresh (rest_sum extra c (sum_at p)))))

unfoldable pub sent : ℕ → Protocol → End → Endpoint → List ℕ → List ℕ
sent hops p e n bs =
    let h = sent_header hops e n.address (header_of bs) in
    h ++ sent_body p e (besides p h (length (body_of bs))) n.port (body_of bs)
