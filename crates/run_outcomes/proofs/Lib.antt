mod Run
