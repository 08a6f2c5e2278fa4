mod RisingLemmas
