use Rattle.captures.proofs.Common.{arith, nat_tests, pcap_start}
use Rattle.captures.proofs.forms.pcap_start.Goals as goal

pub returns-then-high : goal.returns-then-high
unfolding pcap_start
returns-then-high c = grind (arith, nat_tests)

pub returns-then-low : goal.returns-then-low
unfolding pcap_start
returns-then-low c = grind (arith, nat_tests)

pub returns-then-high-2 : goal.returns-then-high-2
unfolding pcap_start
returns-then-high-2 c = grind (arith, nat_tests)

pub returns-then-low-2 : goal.returns-then-low-2
unfolding pcap_start
returns-then-low-2 c = grind (arith, nat_tests)

pub returns-else-low-2 : goal.returns-else-low-2
unfolding pcap_start
returns-else-low-2 c = grind (arith, nat_tests)
